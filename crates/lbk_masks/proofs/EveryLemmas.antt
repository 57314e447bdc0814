-- What holds of each number below another, by computing it.
use Rattle.std.proofs.Common.{ℕ, zero, suc, ◌<◌, ◌&&◌, Bool, true, false, T, arith}

abbrev pub upto : (ℕ → Bool) → ℕ → Bool
upto p zero = true
upto p (suc n) = p 0 && upto (λ i. p (suc i)) n

first : (a b : Bool) → T (a && b) → T a
first true b t = tt
first false b t = t

second : (a b : Bool) → T (a && b) → T b
second true b t = t
second false b t = absurd t

pub every : (p : ℕ → Bool) (n : ℕ) → T (upto p n) → (i : ℕ) → i < n → T (p i)
every p zero t i h = absurd (omega (arith, h))
every p (suc n) t zero h = first (p 0) _ t
every p (suc n) t (suc i) h = every (λ j. p (suc j)) n (second (p 0) _ t) i (omega (arith, h))
