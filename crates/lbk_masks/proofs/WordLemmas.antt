-- Bits of one number joined to those of some words.
use Rattle.std.proofs.Common.{◌≡◌, ℕ, ◌/◌, ◌%◌, ◌==◌, ◌<◌, ◌&&◌, ◌||◌, Bool, true, false, List, length, get_or, set, get_or-set_other, get_or-set_same, refl, sym, ap, ap₂, ◌∙◌, ⊎_elim}
use Rattle.std.specs.Int.Bits.{bit_or}
use Rattle.std.proofs.lemmas.Bool.{and_left, cases_eq, eq-eqb, ne_eqb}
use Rattle.lbk_masks.proofs.BitLemmas.{set-or}
use Rattle.lbk_masks.specs.Bits.{is_marked}
use Rattle.lbk_masks.specs.Sets.{is_set}

pub or-none : (x y : Bool) → y ≡ false → x ≡ (x || y)
or-none true y none = refl
or-none false y none = sym none

-- bits of one word more
pub marked-joined : (words : List ℕ) (word i bits : ℕ) → word < length words
    → is_marked (set words word (bit_or (get_or words word 0) bits)) i ≡ (is_marked words i || ((i / 64 == word) && is_set bits (i % 64)))
marked-joined words word i bits within =
    let joined = bit_or (get_or words word 0) bits in
    ⊎_elim
    (λ (same : i / 64 ≡ word).
    ap (λ q. is_set (get_or (set words word joined) q 0) (i % 64)) same
    ∙ ap (λ n. is_set n (i % 64)) (get_or-set_same words word joined 0 within)
    ∙ set-or (get_or words word 0) bits (i % 64)
    ∙ ap₂ ◌||◌ (ap (λ q. is_set (get_or words q 0) (i % 64)) (sym same)) (ap (λ b. b && is_set bits (i % 64)) (sym (eq-eqb (i / 64) word same))))
    (λ (apart : i / 64 ≡ word → ⊥).
    ap (λ n. is_set n (i % 64)) (get_or-set_other words word (i / 64) joined 0 apart)
    ∙ or-none (is_marked words i) ((i / 64 == word) && is_set bits (i % 64)) (and_left (i / 64 == word) (is_set bits (i % 64)) (ne_eqb (i / 64) word apart)))
    (cases_eq (i / 64) word)
