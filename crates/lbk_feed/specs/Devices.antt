-- What one call of a device does: its counts, its end, and its bytes, if the device tells them.
use Rattle.std.specs.Prelude.{◌≡◌, ℕ, ◌+◌, ◌-◌, ◌^◌, ◌<◌, ◌==◌, ◌&&◌, ◌||◌, min, nat_lt, Bool, List, length, take}
use Rattle.std.specs.Prelude.{Option, None, Some, Result, Ok, Err, MatchResult, ⊤}
use Rattle.std.specs.Io.KnownBytes.{Keeps, Appends, Consumes, IsAtEnd}

-- how many reads were made, and how many bytes the last one returned: 0 if it failed, or if none was made
pub record Reads : Type 0 where
  pub count : ℕ
  pub gave : ℕ

-- how many bytes a read with result r returned
abbrev pub given_by : {E : Type 0} → Result ℕ E → ℕ
given_by (Ok n) = n
given_by (Err _) = 0

-- one more, or the greatest count, which stays
abbrev pub count_up : ℕ → ℕ
count_up n = min (n + 1) (2 ^ 64 - 1)

-- the count of failures after a call with result r
abbrev pub failures_after : {T E : Type 0} → ℕ → Result T E → ℕ
failures_after n (Ok _) = n
failures_after n (Err _) = count_up n

-- whether the end was reached, after a read into `room` bytes with result r
abbrev pub ended_after : {E : Type 0} → Bool → Result ℕ E → ℕ → Bool
ended_after ended (Ok n) room = ended || ((n == 0) && nat_lt 0 room)
ended_after ended (Err _) room = ended

-- what is still known is as before
abbrev pub KeepsIfTold : Option (List ℕ) → Option (List ℕ) → Type 0
KeepsIfTold None new = ⊤
KeepsIfTold (Some xs) None = ⊤
KeepsIfTold (Some xs) (Some ys) = ys ≡ xs

-- a read with result r: for Ok(n) the first n bytes of buf are the front of the unread bytes, and are taken from them;
-- n is 0 only at their end or without room. For Err none was taken, if they are still known
abbrev pub Takes : {E : Type 0} → Option (List ℕ) → Option (List ℕ) → Result ℕ E → List ℕ → Type 0
Takes old new r buf = MatchResult r (λ n. Consumes old new (take n buf) × (n ≡ 0 → 0 < length buf → IsAtEnd new))
    (λ _. KeepsIfTold old new)

-- a write with result r: for Ok(n) the first n bytes join those written, for Err none do
abbrev pub Puts : {E : Type 0} → Option (List ℕ) → Option (List ℕ) → Result ℕ E → List ℕ → Type 0
Puts old new r bytes = MatchResult r (λ n. Appends old new (take n bytes)) (λ _. Keeps old new)
