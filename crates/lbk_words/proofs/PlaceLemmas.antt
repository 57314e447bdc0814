-- What the halves of a byte tell of it, by its place among bytes.
use Rattle.std.proofs.Common.{◌≡◌, ℕ, ◌<◌, ◌≤◌, Bool, true, false, cond, not, ◌&&◌, ◌||◌, nat_lt, List, get_or, refl, sym, ap, ap₂, ◌∙◌, ⊎_elim}
use Rattle.std.proofs.lemmas.Bool.{cases_lt, le-ltb, not-true}
use Rattle.ucd_table.proofs.TrieCheck.{all_below, all_below-at}
use Rattle.lbk_masks.specs.Sets.{is_in}
use Rattle.lbk_words.specs.declared.blocks.TheConstants.{HALVES}
use Rattle.lbk_words.specs.Blocks.{class_at, class_of, is_either, letter_class}
use Rattle.lbk_words.proofs.Booleans.{or-false, or_parts}
use Rattle.lbk_words.proofs.EdgeLemmas.{is-classed}
use Rattle.lbk_words.proofs.LetterLemmas.{low-open, low-inner, or-true}

pub record IsPlaced (bytes : List ℕ) (i : ℕ) : Type 0 where
  pub letter : (is_in HALVES 3 (get_or bytes i 0) || is_either bytes i) ≡ (class_at bytes i).letter
  pub digit : is_in HALVES 4 (get_or bytes i 0) ≡ (class_at bytes i).digit
  pub low_line : is_in HALVES 8 (get_or bytes i 0) ≡ (class_at bytes i).low_line
  pub mid_letter : is_in HALVES 80 (get_or bytes i 0) ≡ (class_at bytes i).mid_letter
  pub mid_digit : is_in HALVES 176 (get_or bytes i 0) ≡ (class_at bytes i).mid_digit
  pub no_letter : ((class_at bytes i).mid_letter && (class_at bytes i).letter) ≡ false
  pub no_digit : ((class_at bytes i).mid_digit && (class_at bytes i).digit) ≡ false

-- a byte from 128 on is in none of these sets
abbrev wide_right : ℕ → Bool
wide_right b = nat_lt b 128 || not (is_in HALVES 4 b || (is_in HALVES 8 b || (is_in HALVES 80 b || is_in HALVES 176 b)))

wides_right : all_below wide_right 256 ≡ true
unfolding all_below
wides_right = refl

pub is-placed : (bytes : List ℕ) (i : ℕ) → ((j : ℕ) → get_or bytes j 0 < 256) → IsPlaced bytes i
is-placed bytes i fit = by (is_either bytes i) refl
  where
    b : ℕ
    b = get_or bytes i 0

    -- of a letter
    wide : is_either bytes i ≡ true → 128 ≤ b
    wide either = ⊎_elim
        (λ (low : b < 128).
        absurd (let e : true ≡ false = sym either ∙ ap₂ (λ x y. x || y) (low-open bytes i fit low) (low-inner bytes i fit low) in let never : ⊥ = cc in never))
        (λ (high : 128 ≤ b). high)
        (cases_lt b 128)

    by : (either : Bool) → is_either bytes i ≡ either → IsPlaced bytes i
    by true either =
        let class_is : class_at bytes i ≡ letter_class = ap (λ e. cond e letter_class (class_of b)) either in
        let none = or_parts _ _ (not-true _ (sym (ap (λ l. l || not (is_in HALVES 4 b || (is_in HALVES 8 b || (is_in HALVES 80 b || is_in HALVES 176 b)))) (le-ltb b 128 (wide either)))
        ∙ all_below-at wide_right 256 b wides_right (fit i))) in
        let low = or_parts _ _ none.1 in
        let mids = or_parts _ _ low.1 in
        record {
          letter = ap (λ e. is_in HALVES 3 b || e) either ∙ or-true (is_in HALVES 3 b) ∙ ap (λ c. c.letter) (sym class_is);
          digit = none.0 ∙ ap (λ c. c.digit) (sym class_is);
          low_line = low.0 ∙ ap (λ c. c.low_line) (sym class_is);
          mid_letter = mids.0 ∙ ap (λ c. c.mid_letter) (sym class_is);
          mid_digit = mids.1 ∙ ap (λ c. c.mid_digit) (sym class_is);
          no_letter = ap (λ c. c.mid_letter && c.letter) class_is;
          no_digit = ap (λ c. c.mid_digit && c.digit) class_is;
        }
    by false either =
        let class_is : class_at bytes i ≡ class_of b = ap (λ e. cond e letter_class (class_of b)) either in
        let is = is-classed b (fit i) in
        record {
          letter = ap (λ e. is_in HALVES 3 b || e) either ∙ or-false (is_in HALVES 3 b) ∙ is.letter ∙ ap (λ c. c.letter) (sym class_is);
          digit = is.digit ∙ ap (λ c. c.digit) (sym class_is);
          low_line = is.low_line ∙ ap (λ c. c.low_line) (sym class_is);
          mid_letter = is.mid_letter ∙ ap (λ c. c.mid_letter) (sym class_is);
          mid_digit = is.mid_digit ∙ ap (λ c. c.mid_digit) (sym class_is);
          no_letter = ap (λ c. c.mid_letter && c.letter) class_is ∙ is.no_letter;
          no_digit = ap (λ c. c.mid_digit && c.digit) class_is ∙ is.no_digit;
        }
