-- `==` tells apart what can be known of the cells on the left.
use Rattle.std.proofs.Common.{◌≡◌, false, ap, Decides}
use Rattle.std.specs.Cmp.{booleans_Decides}
use Rattle.std.proofs.lemmas.Bool.Decides.{Decides-and, Decides-like}
use Rattle.lbk_uax14.specs.contracts.facts.BeforePartialEq.TheImpl.{eq-value as before_eq}
use Rattle.lbk_uax14.specs.contracts.facts.LeftPartialEq.TheImpl.{eq-value as left_eq}
use Rattle.lbk_uax14.specs.declared.classes.Class.TheVariants.{Alphabetic}
use Rattle.lbk_uax14.specs.declared.facts.Before.{Before}
use Rattle.lbk_uax14.specs.declared.facts.Left.{Left}
use Rattle.lbk_uax14.specs.Units.{letter}
use Rattle.lbk_uax14.proofs.PagesLemmas.{cell_Decides, class_Decides, five_Decide}

before_from_fields : (one other : Before) → one.last ≡ other.last → one.before_spaces ≡ other.before_spaces
    → one.hebrew_hyphen ≡ other.hebrew_hyphen → one.odd_indicators ≡ other.odd_indicators
    → one.opens_quotation ≡ other.opens_quotation → one ≡ other
before_from_fields one other last spaces hebrew indicators quotation = λ i. record {
  last = last i;
  before_spaces = spaces i;
  hebrew_hyphen = hebrew i;
  odd_indicators = indicators i;
  opens_quotation = quotation i;
}

before_Decides : (one other : Before) → Decides (before_eq.it one other) (one ≡ other)
before_Decides one other = five_Decide (before_from_fields one other)
    (λ e. (ap (λ b. b.last) e, (ap (λ b. b.before_spaces) e, (ap (λ b. b.hebrew_hyphen) e, (ap (λ b. b.odd_indicators) e, ap (λ b. b.opens_quotation) e)))))
    (cell_Decides one.last other.last) (class_Decides one.before_spaces other.before_spaces)
    (booleans_Decides one.hebrew_hyphen other.hebrew_hyphen) (booleans_Decides one.odd_indicators other.odd_indicators)
    (booleans_Decides one.opens_quotation other.opens_quotation)

left_from_fields : (one other : Left) → one.empty ≡ other.empty → one.last ≡ other.last
    → one.past_zero_width ≡ other.past_zero_width → one.units ≡ other.units → one ≡ other
left_from_fields one other empty last zero_width units = λ i. record {
  empty = empty i;
  last = last i;
  past_zero_width = zero_width i;
  units = units i;
}

-- `==` is true exactly where they are equal
pub left_Decides : (one other : Left) → Decides (left_eq.it one other) (one ≡ other)
left_Decides one other =
    Decides-like _
    (λ p. left_from_fields one other p.0 p.1.0 p.1.1.0 p.1.1.1)
    (λ e. (ap (λ l. l.empty) e, (ap (λ l. l.last) e, (ap (λ l. l.past_zero_width) e, ap (λ l. l.units) e))))
    (Decides-and _ _ (booleans_Decides one.empty other.empty)
    (Decides-and _ _ (class_Decides one.last other.last)
    (Decides-and _ _ (booleans_Decides one.past_zero_width other.past_zero_width)
    (before_Decides one.units other.units))))

-- what a read past the end of a slice stands for
abbrev pub unread : Left
unread = record {
  empty = false;
  last = Alphabetic;
  past_zero_width = false;
  units = record { last = letter; before_spaces = Alphabetic; hebrew_hyphen = false; odd_indicators = false; opens_quotation = false };
}
