-- A text that is written to a buffer with room for it.
use Rattle.std.specs.Prelude.{◌≡◌, ℕ, ◌+◌, ◌≤◌, ◌/◌, ◌%◌, List, [], ◌∷◌, ◌++◌, length, take}

-- `new` has the text after the first `at` bytes of `old`, up to `end`; what follows may be anything
pub record Placed (old new : List ℕ) (at : ℕ) (text : List ℕ) (end : ℕ) : Type 0 where
  pub bytes : take end new ≡ take at old ++ text
  pub moved : end ≡ at + length text
  pub len : length new ≡ length old

-- the same, and the text has at most so many bytes
pub record PlacedIn (old new : List ℕ) (at most : ℕ) (text : List ℕ) (end : ℕ) : Type 0 where
  pub placed : Placed old new at text end
  pub short : end ≤ at + most

-- the two digits of a number below 100, with a leading zero
abbrev pub two_digits : ℕ → List ℕ
two_digits n = (48 + n / 10) ∷ (48 + n % 10) ∷ []

-- the four digits of a number below 10,000, with leading zeros
abbrev pub four_digits : ℕ → List ℕ
four_digits n = (48 + n / 1000) ∷ (48 + n / 100 % 10) ∷ (48 + n / 10 % 10) ∷ (48 + n % 10) ∷ []
