-- Bits of a number of 64 bits, and of a row of such numbers.
use Rattle.std.specs.Prelude.{◌≡◌, ◌≢◌, ℕ, ◌/◌, ◌%◌, ◌<◌, ◌≤◌, Bool, true, false, List, slice_index}
use Rattle.lbk_masks.specs.Sets.{is_set}

-- bit i of some words: the lowest of the first word comes first
abbrev pub is_marked : List ℕ → ℕ → Bool
is_marked words i = is_set (slice_index words (i / 64)) (i % 64)

-- these are the bits of a number below this one
pub record AreKeptBelow (count bits kept : ℕ) : Type 0 where
  pub same : (i : ℕ) → i < count → is_set kept i ≡ is_set bits i
  pub none : (i : ℕ) → count ≤ i → i < 64 → is_set kept i ≡ false

-- these are the bits of a number from this one on
pub record AreKeptFrom (first bits kept : ℕ) : Type 0 where
  pub same : (i : ℕ) → first ≤ i → i < 64 → is_set kept i ≡ is_set bits i
  pub none : (i : ℕ) → i < first → is_set kept i ≡ false

-- this is the lowest bit of a number that is set, if one is
pub record IsLowest (bits index : ℕ) : Type 0 where
  pub set : 0 < bits → is_set bits index ≡ true
  pub none : (i : ℕ) → i < index → is_set bits i ≡ false

-- the bits of a number but this one
pub record AreCleared (bits index kept : ℕ) : Type 0 where
  pub same : (i : ℕ) → i < 64 → i ≢ index → is_set kept i ≡ is_set bits i
  pub gone : is_set kept index ≡ false
  pub fewer : kept ≤ bits
