-- What one more write does to the bytes that are written.
use Rattle.std.proofs.Common.{◌≡◌, ℕ, ◌+◌, ◌-◌, ◌<◌, ◌≤◌, List, length, take, drop, Option, length-drop, length-take, arith}
use Rattle.std.specs.Io.KnownBytes.{Appends}
use Rattle.std.proofs.KnownBytes.{Appends-trans}
use Rattle.std.proofs.lemmas.List.{take-take}
use Rattle.std.proofs.Math.Seq.{take-add}

-- a write took n more bytes behind the first `done`
pub appended_more : (before between after : Option (List ℕ)) (bytes : List ℕ) (done n : ℕ) → n ≤ length bytes - done
    → Appends before between (take done bytes) → Appends between after (take n (take (length bytes - done) (drop done bytes)))
    → Appends before after (take (done + n) bytes)
appended_more before between after bytes done n within first then =
    let next : take n (take (length bytes - done) (drop done bytes)) ≡ take n (drop done bytes) = take-take n (length bytes - done) (drop done bytes) within in
    rw (take-add done n bytes) (Appends-trans before between after _ _ first (rw next at then))

-- a write behind the first `done` bytes is of some
pub some_left : (bytes : List ℕ) (done : ℕ) → done < length bytes → 0 < length (take (length bytes - done) (drop done bytes))
some_left bytes done below = grind (arith, length-take, length-drop, below)
