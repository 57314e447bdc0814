-- The numbers that are kept of scalars.
use Rattle.std.proofs.Common.{◌≡◌, ℕ, ◌+◌, ◌%◌, ◌<◌, ◌≢◌, Bool, true, false, leb, get_or, set, sym, ap, subst, ◌∙◌, arith, ⊎_elim}
use Rattle.std.specs.Prelude.{slice_index_or}
use Rattle.std.proofs.lemmas.Bool.{cases_eq, le-leb, lt-leb}
use Rattle.std.proofs.lemmas.List.{get_or-set_other, get_or-set_same, length-set}
use Rattle.lbk_words.specs.declared.near.NearScalars.{NearScalars}
use Rattle.lbk_words.specs.Kinds.{kind_at}
use Rattle.lbk_words.specs.Near.{AreMet, near_number}

-- a number gives back what was kept
kept-kind : (kind : ℕ) (is_letter : Bool) → kind < 32 → near_number kind is_letter % 32 ≡ kind
kept-kind kind true few = omega arith
kept-kind kind false few = omega arith

kept-letter : (kind : ℕ) (is_letter : Bool) → kind < 32 → leb 64 (near_number kind is_letter) ≡ is_letter
kept-letter kind true few = le-leb 64 (kind + 96) (omega arith)
kept-letter kind false few = lt-leb 64 (kind + 32) (omega arith)

-- a number that is not 0 is that of the scalar
pub near-told : (letter : ℕ → Bool) (near : NearScalars) (code : ℕ) → AreMet letter near → code < 0x2_0000 → kind_at code < 32
    → slice_index_or near.numbers code 0 ≢ 0
    → (slice_index_or near.numbers code 0 % 32 ≡ kind_at code) × (leb 64 (slice_index_or near.numbers code 0) ≡ letter code)
near-told letter near code met within few some =
    let is = met.right code within some in (
      ap (λ n. n % 32) is ∙ kept-kind (kind_at code) (letter code) few,
      ap (leb 64) is ∙ kept-letter (kind_at code) (letter code) few,
    )

-- the number of one scalar more is kept
pub near-more : (letter : ℕ → Bool) (near : NearScalars) (code number : ℕ) → AreMet letter near → code < 0x2_0000
    → number ≡ near_number (kind_at code) (letter code) → AreMet letter (record { numbers = set near.numbers code number })
near-more letter near code number met within is = record {
  all = length-set near.numbers code number ∙ met.all;
  right = λ c few some. ⊎_elim
      (λ (same : c ≡ code). subst (λ k. get_or (set near.numbers code number) k 0 ≡ near_number (kind_at k) (letter k)) (sym same)
      (get_or-set_same near.numbers code number 0 (omega (arith, met.all)) ∙ is))
      (λ (other : c ≢ code).
      let kept = get_or-set_other near.numbers code c number 0 other in
      kept ∙ met.right c few (subst (λ n. n ≢ 0) kept some))
      (cases_eq c code);
}
