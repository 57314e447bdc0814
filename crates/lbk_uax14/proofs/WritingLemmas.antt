-- A list that is filled place by place.
use Rattle.std.proofs.Common.{◌≡◌, ◌≢◌, ℕ, ◌+◌, ◌<◌, List, [], ◌∷◌, Some, length, zero, suc, set, refl, ap, ◌∙◌, arith}
use Rattle.std.proofs.Common.{below_more}
use Rattle.std.specs.List.{slice_get}
use Rattle.std.proofs.lemmas.List.{length-set, get_or-set_same}
use Rattle.std.proofs.lemmas.Option.{slice_get-get_or}

pub slice_get-set_same : {X : Type 0} (xs : List X) (i : ℕ) (x : X) → i < length xs → slice_get (set xs i x) i ≡ Some x
slice_get-set_same xs i x within =
    slice_get-get_or (set xs i x) i x (omega (arith, length-set xs i x)) ∙ ap Some (get_or-set_same xs i x x within)

pub slice_get-set_other : {X : Type 0} (xs : List X) (i k : ℕ) (x : X) → k ≢ i
    → slice_get (set xs i x) k ≡ slice_get xs k
slice_get-set_other [] i k x other = refl
slice_get-set_other (_ ∷ xs) zero zero x other = absurd (other refl)
slice_get-set_other (_ ∷ xs) zero (suc k) x other = refl
slice_get-set_other (_ ∷ xs) (suc i) zero x other = refl
slice_get-set_other (_ ∷ xs) (suc i) (suc k) x other = slice_get-set_other xs i k x (λ e. other (ap suc e))

-- one more place
pub written_more : {X : Type 0} (value : ℕ → X) (xs : List X) (n : ℕ) (x : X) → n < length xs
    → ((k : ℕ) → k < n → slice_get xs k ≡ Some (value k)) → x ≡ value n
    → (k : ℕ) → k < n + 1 → slice_get (set xs n x) k ≡ Some (value k)
written_more value xs n x within before here =
    below_more (λ k. slice_get (set xs n x) k ≡ Some (value k)) n
    (λ k below. let other : k ≢ n = omega arith in slice_get-set_other xs n k x other ∙ before k below)
    (slice_get-set_same xs n x within ∙ ap Some here)
