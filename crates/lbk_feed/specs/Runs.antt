-- A run that reads a stream and writes another: what it read, what it wrote, and when a device failed.
use Rattle.std.specs.Prelude.{◌≡◌, ℕ, ◌-◌, ◌^◌, ◌<◌, Bool, true, false, List, ◌++◌, take, Option, Some}
use Rattle.std.specs.Io.KnownBytes.{Consumes, Appends, prepend_known}
use Rattle.lbk_feed.specs.Devices.{KeepsIfTold}
use Rattle.lbk_feed.specs.View.{BeginsWith}
use Rattle.lbk_feed.specs.declared.faults.FeedFault.{FeedFault}
use Rattle.lbk_feed.specs.declared.faults.FeedFault.TheVariants.{Read}

-- a device's failures rose from one count to the other, unless the count was at its greatest value
abbrev pub HasFailed : ℕ → ℕ → Type 0
HasFailed before after = before < 2 ^ 64 - 1 → before < after

-- whether a call of a feed ended with a failed read
abbrev pub is_failed_read : Option FeedFault → Bool
is_failed_read (Some Read) = true
is_failed_read _ = false

-- the bytes read are the front of the unread bytes, and are taken from them; after a failed read the reader need not
-- tell what is unread, and if it does, it is the bytes after them
abbrev pub Took : Bool → Option (List ℕ) → Option (List ℕ) → List ℕ → Type 0
Took false before after read = Consumes before after read
Took true before after read = BeginsWith read before × KeepsIfTold before (prepend_known read after)

-- a run read some bytes and wrote some, and So holds of both; `failed` says that a read failed, `unread` and `written`
-- are what the devices told before it, and those with a prime what they tell after it
pub record Ran (failed : Bool) (unread unread' written written' : Option (List ℕ))
    (So : List ℕ → List ℕ → Type 0) : Type 0 where
  pub read : List ℕ
  pub out : List ℕ
  pub took : Took failed unread unread' read
  pub put : Appends written written' out
  pub so : So read out

-- a run that stopped: `out` is a prefix of the output that some first bytes of those read settle, whatever follows
-- them, or, once the end was reached, a prefix of the output for all of them
pub data IsStopped (Settled Whole : List ℕ → List ℕ → Type 0) (ended : Type 0) (read out : List ℕ) : Type 0 where
  midway : (first later all : List ℕ) (n : ℕ) → read ≡ first ++ later → Settled first all → out ≡ take n all
      → IsStopped Settled Whole ended read out
  at_end : (all : List ℕ) (n : ℕ) → ended → Whole read all → out ≡ take n all → IsStopped Settled Whole ended read out
