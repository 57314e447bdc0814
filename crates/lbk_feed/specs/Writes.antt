-- Which calls of a writer were made.
use Rattle.std.specs.Prelude.{◌≡◌, ℕ, ◌<◌, List, length, Option, Result, IfOk}
use Rattle.lbk_feed.specs.declared.traits.Failed.{Failed}
use Rattle.lbk_feed.specs.Devices.{Puts, failures_after}

-- a writer after writes of at least one byte each, or after none; `written` and `failures` are what it tells
pub data HasWritten {W : Type 0} (written : W → Option (List ℕ)) (failures : W → ℕ) (before : W) : W → Type 0 where
  none : HasWritten written failures before before
  more : (now after : W) (bytes : List ℕ) (answer : Result ℕ Failed) → HasWritten written failures before now
      → 0 < length bytes → IfOk answer (λ n. 0 < n) → Puts (written now) (written after) answer bytes
      → failures after ≡ failures_after (failures now) answer → HasWritten written failures before after
