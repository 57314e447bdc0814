-- What no rule asks of a cell changes no verdict.
use Rattle.std.proofs.Common.{◌≡◌, ℕ, Bool, true, false, cond, ◌||◌, ◌&&◌, not, Option, Some, None, List, [], ◌∷◌, ◌++◌}
use Rattle.std.proofs.Common.{map, reverse, take, drop, refl, sym, ap, ◌∙◌}
use Rattle.std.specs.Option.{option_map}
use Rattle.std.proofs.lemmas.List.{drop-map, length-map, map-append, reverse-append, take-map}
use Rattle.lbk_uax14.specs.declared.classes.Quote.{Quote}
use Rattle.lbk_uax14.specs.declared.classes.Quote.TheVariants.{Neither}
use Rattle.lbk_uax14.specs.declared.cells.Cell.{Cell}
use Rattle.lbk_values.specs.declared.profile.Profile.{Profile}
use Rattle.lbk_values.specs.declared.profile.Profile.TheVariants.{First, Second}
use Rattle.lbk_uax14.specs.declared.verdicts.Verdict.{Verdict}
use Rattle.lbk_uax14.specs.Chain.{choose, from_11, from_cells}
use Rattle.lbk_uax14.specs.Classes.{Set, CP, OP, QU, hard, is, mark, none_of}
use Rattle.lbk_uax14.specs.Facts.{units_before}
use Rattle.lbk_uax14.specs.Held.{is_15b, is_held, now_at, late_at, answer_at, unanswered, unanswered_before}
use Rattle.lbk_uax14.specs.Normal.{normal}
use Rattle.lbk_uax14.specs.Rules.{unit_rules, last_rule, cell_rules, joining_rules, opening_rules}
use Rattle.lbk_uax14.specs.Rules.{quotation_rules, space_rules, hyphen_rules, affix_rules, number_rules, syllable_rules}
use Rattle.lbk_uax14.specs.Rules.{letter_rules}
use Rattle.lbk_uax14.specs.Sides.{Side, at, behind, is_nothing, at_pictograph, at_narrow, at_odd_run, before_spaces}
use Rattle.lbk_uax14.specs.Sides.{is_initial, is_final, opening, closing, opens_quotation, closes_quotation}
use Rattle.lbk_uax14.specs.Sides.{leaves_open, leaves_closed}
use Rattle.lbk_uax14.specs.Units.{letter, unit, units, units_after, heads}
use Rattle.lbk_uax14.specs.Verdict.{verdict_in, verdict_between_in}
use Rattle.lbk_uax14.proofs.ChainLemmas.{from_11-list, verdict_between-chain}
use Rattle.lbk_uax14.proofs.HeldLemmas.{is_held-chain}

-- Units

-- a unit without what no rule asks of it. No unit is a mark, so its pictograph stays
plain : Cell → Cell
plain cell = record (normal cell) { pict_cn = cell.pict_cn }

unit-normal : (cell : Cell) → unit (normal cell) ≡ plain (unit cell)
unfolding normal plain is
unit-normal cell =
    elim (mark cell.class)
    as (λ v. cond v letter (record (normal cell) { pict_cn = not v && cell.pict_cn }) ≡ plain (cond v letter cell))
    [ true ↦ refl | false ↦ refl ]

pub heads-normal : (side : Side) (cell : Cell) → heads (map normal side) (normal cell) ≡ heads side cell
unfolding normal
heads-normal [] cell = refl
heads-normal (_ ∷ _) cell = refl

-- a unit before others, where a head comes
unit-first : (begins : Bool) (cell : Cell) (a b : List Cell) → a ≡ map plain b
    → cond begins (unit (normal cell) ∷ a) a ≡ map plain (cond begins (unit cell ∷ b) b)
unit-first true cell a b same = let u = unit-normal cell in cc
unit-first false cell a b same = same

units_after-normal : (fresh : Bool) (cells : List Cell)
    → units_after fresh (map normal cells) ≡ map plain (units_after fresh cells)
unfolding normal
units_after-normal fresh [] = refl
units_after-normal fresh (cell ∷ cells) =
    unit-first (fresh || none_of mark cell.class) cell (units_after (hard cell.class) (map normal cells))
    (units_after (hard cell.class) cells) (units_after-normal (hard cell.class) cells)

units_before-normal : (side : Side) → units_before (map normal side) ≡ map plain (units_before side)
units_before-normal [] = refl
units_before-normal (cell ∷ side) =
    ap (λ v. cond v (unit (normal cell) ∷ units_before (map normal side)) (units_before (map normal side)))
    (heads-normal side cell)
    ∙ unit-first (heads side cell) cell (units_before (map normal side)) (units_before side) (units_before-normal side)

-- Conditions

nothing-normal : (side : Side) → is_nothing (map normal side) ≡ is_nothing side
nothing-normal [] = refl
nothing-normal (_ ∷ _) = refl

at-normal : (set : Set) (side : Side) → at set (map normal side) ≡ at set side
unfolding normal
at-normal set [] = refl
at-normal set (_ ∷ _) = refl

at-plain : (set : Set) (side : Side) → at set (map plain side) ≡ at set side
unfolding normal plain
at-plain set [] = refl
at-plain set (_ ∷ _) = refl

before_spaces-same : (f : Cell → Cell) → ((cell : Cell) → (f cell).class ≡ cell.class) → (side : Side)
    → before_spaces (map f side) ≡ before_spaces side
unfolding before_spaces
before_spaces-same f same [] = refl
before_spaces-same f same (cell ∷ side) = rw (same cell, before_spaces-same f same side)

before_spaces-normal : (side : Side) → before_spaces (map normal side) ≡ before_spaces side
unfolding normal
before_spaces-normal side = before_spaces-same normal (λ _. refl) side

before_spaces-plain : (side : Side) → before_spaces (map plain side) ≡ before_spaces side
unfolding normal plain
before_spaces-plain side = before_spaces-same plain (λ _. refl) side

behind-plain : (set : Set) (side : Side) → behind set (map plain side) ≡ behind set side
behind-plain set [] = refl
behind-plain set (_ ∷ side) = at-plain set side

pictograph-plain : (side : Side) → at_pictograph (map plain side) ≡ at_pictograph side
unfolding plain
pictograph-plain [] = refl
pictograph-plain (_ ∷ _) = refl

odd_run-plain : (side : Side) → at_odd_run (map plain side) ≡ at_odd_run side
unfolding normal plain at_odd_run
odd_run-plain [] = refl
odd_run-plain (cell ∷ side) = rw (odd_run-plain side)

narrow_op : (o c w : Bool) → (o && not ((o || c) && w)) ≡ (o && not w)
narrow_op true c w = refl
narrow_op false c w = refl

narrow_cp : (o c w : Bool) → (c && not ((o || c) && w)) ≡ (c && not w)
narrow_cp true true w = refl
narrow_cp false true w = refl
narrow_cp o false w = refl

narrow_op-plain : (side : Side) → at_narrow OP (map plain side) ≡ at_narrow OP side
unfolding normal plain
narrow_op-plain [] = refl
narrow_op-plain (cell ∷ _) = narrow_op (OP cell.class) (CP cell.class) cell.wide

narrow_cp-plain : (side : Side) → at_narrow CP (map plain side) ≡ at_narrow CP side
unfolding normal plain
narrow_cp-plain [] = refl
narrow_cp-plain (cell ∷ _) = narrow_cp (OP cell.class) (CP cell.class) cell.wide

quote_test : (test : Quote → Bool) (q : Bool) (quote : Quote) → (q && test (cond q quote Neither)) ≡ (q && test quote)
quote_test test true quote = refl
quote_test test false quote = refl

opening-plain : (cell : Cell) → opening (plain cell) ≡ opening cell
unfolding normal plain
opening-plain cell = quote_test is_initial (QU cell.class) cell.quote

closing-plain : (cell : Cell) → closing (plain cell) ≡ closing cell
unfolding normal plain
closing-plain cell = quote_test is_final (QU cell.class) cell.quote

leaves_open-plain : (side : Side) → leaves_open (map plain side) ≡ leaves_open side
unfolding normal plain
leaves_open-plain [] = refl
leaves_open-plain (_ ∷ _) = refl

leaves_closed-plain : (side : Side) → leaves_closed (map plain side) ≡ leaves_closed side
unfolding normal plain
leaves_closed-plain [] = refl
leaves_closed-plain (_ ∷ _) = refl

opens_quotation-plain : (side : Side) → opens_quotation (map plain side) ≡ opens_quotation side
unfolding normal plain opens_quotation
opens_quotation-plain [] = refl
opens_quotation-plain (cell ∷ side) = rw (opens_quotation-plain side, opening-plain cell, leaves_open-plain side)

closes_quotation-plain : (side : Side) → closes_quotation (map plain side) ≡ closes_quotation side
closes_quotation-plain [] = refl
closes_quotation-plain (cell ∷ side) = rw (closing-plain cell, leaves_closed-plain side)

-- Rules

-- they ask for nothing that a plain unit lacks
unit_rules-plain : (profile : Profile) (left right : Side) (v : Verdict)
    → choose (unit_rules profile) (map plain left) (map plain right) v ≡ choose (unit_rules profile) left right v
unfolding unit_rules joining_rules opening_rules quotation_rules space_rules hyphen_rules affix_rules number_rules
    syllable_rules letter_rules last_rule
unit_rules-plain First left right v =
    simp (
      at-plain,
      behind-plain,
      before_spaces-plain,
      narrow_op-plain,
      narrow_cp-plain,
      odd_run-plain,
      pictograph-plain,
    )
unit_rules-plain Second left right v =
    simp (
      at-plain,
      behind-plain,
      before_spaces-plain,
      opens_quotation-plain,
      closes_quotation-plain,
      narrow_op-plain,
      narrow_cp-plain,
      odd_run-plain,
      pictograph-plain,
    )

from_11-plain : (profile : Profile) (left right : Side)
    → from_11 profile (map plain left) (map plain right) ≡ from_11 profile left right
from_11-plain profile left right =
    sym (from_11-list profile (map plain left) (map plain right))
    ∙ unit_rules-plain profile left right _
    ∙ from_11-list profile left right

-- the rules over cells ask for classes alone
cell_rules-normal : (left right : Side) (v : Verdict)
    → choose cell_rules (map normal left) (map normal right) v ≡ choose cell_rules left right v
unfolding cell_rules
cell_rules-normal left right v = simp (nothing-normal, at-normal, before_spaces-normal)

pub from_cells-normal : (profile : Profile) (left : Side) (right : List Cell)
    → from_cells profile (map normal left) (map normal right) ≡ from_cells profile left right
unfolding from_cells
from_cells-normal profile left right =
    cell_rules-normal left right _
    ∙ ap (λ v. choose cell_rules left right v)
    (ap (λ u. from_11 profile u (units (map normal right))) (units_before-normal left)
    ∙ ap (λ u. from_11 profile (map plain (units_before left)) u) (units_after-normal true right)
    ∙ from_11-plain profile (units_before left) (units right))

-- Verdicts

pub reverse-map : (f : Cell → Cell) (cells : List Cell) → reverse (map f cells) ≡ map f (reverse cells)
reverse-map f [] = refl
reverse-map f (cell ∷ cells) =
    reverse-append (f cell ∷ []) (map f cells)
    ∙ ap (λ l. l ++ f cell ∷ []) (reverse-map f cells)
    ∙ sym (map-append f (reverse cells) (cell ∷ []))
    ∙ ap (map f) (sym (reverse-append (cell ∷ []) cells))

pub between-normal : (profile : Profile) (left right : List Cell)
    → verdict_between_in profile (map normal left) (map normal right) ≡ verdict_between_in profile left right
between-normal profile left right =
    verdict_between-chain profile (map normal left) (map normal right)
    ∙ ap (λ l. from_cells profile l (map normal right)) (reverse-map normal left)
    ∙ from_cells-normal profile (reverse left) right
    ∙ sym (verdict_between-chain profile left right)

pub verdict-normal : (profile : Profile) (cells : List Cell) (k : ℕ)
    → verdict_in profile (map normal cells) k ≡ verdict_in profile cells k
verdict-normal profile cells k =
    ap (λ l. verdict_between_in profile l (drop k (map normal cells))) (take-map normal k cells)
    ∙ ap (λ r. verdict_between_in profile (map normal (take k cells)) r) (drop-map normal k cells)
    ∙ between-normal profile (take k cells) (drop k cells)

-- Held positions

pub held-normal : (profile : Profile) (left right : List Cell)
    → is_held profile (map normal left) (map normal right) ≡ is_held profile left right
unfolding is_held
held-normal First left right = refl
held-normal Second left [] = refl
held-normal Second left (cell ∷ more) =
    is_held-chain Second (map normal left) (normal cell) (map normal more)
    ∙ ap (λ l. is_15b (from_cells Second l (normal cell ∷ [])).rule) (reverse-map normal left)
    ∙ ap (λ v. is_15b v.rule) (from_cells-normal Second (reverse left) (cell ∷ []))
    ∙ sym (is_held-chain Second left cell more)

pub now-normal : (profile : Profile) (left right : List Cell)
    → now_at profile (map normal left) (map normal right) ≡ now_at profile left right
now-normal profile left right = rw (held-normal profile left right, between-normal profile left right)

unanswered_before-normal : (profile : Profile) (side : Side)
    → unanswered_before profile (map normal side) ≡ unanswered_before profile side
unfolding unanswered_before
unanswered_before-normal profile [] = refl
unanswered_before-normal profile (cell ∷ side) =
    let held : is_held profile (reverse (map normal side)) (normal cell ∷ [])
    ≡ is_held profile (reverse side) (cell ∷ []) =
    ap (λ l. is_held profile l (normal cell ∷ [])) (reverse-map normal side)
    ∙ held-normal profile (reverse side) (cell ∷ []) in
    rw (held, length-map side normal, heads-normal side cell, unanswered_before-normal profile side)

pub unanswered-normal : (profile : Profile) (cells : List Cell)
    → unanswered profile (map normal cells) ≡ unanswered profile cells
unanswered-normal profile cells =
    ap (unanswered_before profile) (reverse-map normal cells) ∙ unanswered_before-normal profile (reverse cells)

-- what is answered of a position that was open
abbrev answered : (ℕ → Verdict) → Option ℕ → Option (ℕ × Verdict)
answered value still = option_map (λ p. (p, value p)) still

answered-same : (a b : ℕ → Verdict) → ((p : ℕ) → a p ≡ b p) → (still : Option ℕ) → answered a still ≡ answered b still
answered-same a b same None = refl
answered-same a b same (Some p) = rw (same p)

pub answer-normal : (profile : Profile) (cells more : List Cell)
    → answer_at profile (map normal cells) (map normal more) ≡ answer_at profile cells more
answer-normal profile cells more =
    ap (answered (verdict_in profile (map normal cells ++ map normal more))) (unanswered-normal profile cells)
    ∙ answered-same (verdict_in profile (map normal cells ++ map normal more)) (verdict_in profile (cells ++ more))
    (λ p. ap (λ l. verdict_in profile l p) (sym (map-append normal cells more))
    ∙ verdict-normal profile (cells ++ more) p)
    (unanswered profile cells)

pub late-normal : (profile : Profile) (cells : List Cell) (cell : Cell) (more : List Cell)
    → late_at profile (map normal cells) (normal cell) (map normal more) ≡ late_at profile cells cell more
late-normal profile cells cell more =
    let begins : heads (reverse (map normal cells)) (normal cell) ≡ heads (reverse cells) cell =
    ap (λ s. heads s (normal cell)) (reverse-map normal cells) ∙ heads-normal (reverse cells) cell in
    ap (λ v. cond v (answer_at profile (map normal cells) (map normal (cell ∷ more))) None) begins
    ∙ ap (λ a. cond (heads (reverse cells) cell) a None) (answer-normal profile cells (cell ∷ more))
