-- What an intake shows, when it needs to read, and what its reads do.
use Rattle.std.specs.Prelude.{◌≡◌, ◌⊎◌, ℕ, ◌+◌, ◌<◌, ◌≤◌, true, false, ◌||◌, List, ◌++◌, length, take, Option}
use Rattle.std.specs.Prelude.{Result, OnOk, OnErr}
use Rattle.std.specs.Io.KnownBytes.{Consumes, IsAtEnd, prepend_known}
use Rattle.lbk_feed.specs.Text.{longest_text}
use Rattle.lbk_feed.specs.declared.judge.Stop.TheVariants.{Faulty}
use Rattle.lbk_feed.specs.declared.intake.Intake.{Intake}
use Rattle.lbk_feed.specs.declared.traits.Failed.{Failed}
use Rattle.lbk_feed.specs.declared.traits.Source.{Ghosts as SourceMembers}
use Rattle.lbk_feed.specs.Devices.{KeepsIfTold, Reads, failures_after}
use Rattle.lbk_feed.specs.Block.{items, used}
use Rattle.lbk_feed.specs.View.{View, BeginsWith, CanGoOn, IsStill, AreDue}

-- the intake as callers of the feed see it
unfoldable pub view_of : Intake → View
view_of i = record {
  held = items i.block;
  ready = take i.ready_len (items i.block);
  behind = used i.block;
  given = i.given;
  is_ended = i.is_ended;
  is_spent = i.is_spent;
}

-- nothing is ready, and the held bytes may continue: a read is needed
pub record WantsMore (i : Intake) : Type 0 where
  pub none_ready : i.ready_len ≡ 0
  pub few : length (items i.block) < 4
  pub goes_on : CanGoOn i.given (items i.block)
  pub open_end : i.is_ended ≡ false

-- a read is needed, and no fault was returned
pub record IsDue (i : Intake) : Type 0 where
  pub wants : WantsMore i
  pub unspent : i.is_spent ≡ false

-- a piece is ready, the bytes have a fault, more were read than a text may have, or the end was reached
abbrev pub IsSettled : Intake → Type 0
IsSettled i = (0 < i.ready_len)
    ⊎ ((i.stop ≡ Faulty) ⊎ ((longest_text < i.given + length (items i.block)) ⊎ (i.is_ended ≡ true)))

-- the result of reads that did not fail: `before` and `after` are the unread bytes, `from` and `to` the reads made
pub record Draws (old new : View) (before after : Option (List ℕ)) (from to : Reads) : Type 0 where
  pub got : List ℕ
  pub grown : new.held ≡ old.held ++ got
  pub taken : Consumes before after got
  pub given : new.given ≡ old.given
  pub spent : new.is_spent ≡ old.is_spent
  pub at_end : new.is_ended ≡ true → IsAtEnd after
  pub none_ready : new.is_ended ≡ true → length new.ready ≡ 0
  pub each_gave : new.is_ended ≡ false → to.count ≤ from.count + length got
  pub but_one_gave : to.count ≤ from.count + length got + 1
  pub due : IsStill old.held new.held from to ⊎ AreDue old.given old.held new.held from to

-- after a failure, if the source still tells, the unread bytes are those before without the bytes returned
abbrev pub KeepsAfter : List ℕ → Option (List ℕ) → Option (List ℕ) → Type 0
KeepsAfter got before after = KeepsIfTold before (prepend_known got after)

-- the same if the last read failed
pub record DrawsAndFails (old new : View) (before after : Option (List ℕ)) (from to : Reads) : Type 0 where
  pub got : List ℕ
  pub grown : new.held ≡ old.held ++ got
  pub front : BeginsWith got before
  pub told : KeepsAfter got before after
  pub given : new.given ≡ old.given
  pub spent : new.is_spent ≡ old.is_spent
  pub open_end : new.is_ended ≡ false
  pub none_ready : length new.ready ≡ 0
  pub but_one_gave : to.count ≤ from.count + length got + 1
  pub goes_on : CanGoOn new.given new.held
  pub due : AreDue old.given old.held new.held from to

-- a call that reads, because a read is due, with this result
pub record Refills {R : Type 0} (source : SourceMembers R) (old new : Intake) (reader reader' : R)
    (result : Result (Unit {0}) Failed) : Type 0 where
  pub ok : OnOk result (Draws (view_of old) (view_of new) (source.unread reader) (source.unread reader')
      (source.reads_made reader) (source.reads_made reader'))
  pub err : OnErr result (DrawsAndFails (view_of old) (view_of new) (source.unread reader) (source.unread reader')
      (source.reads_made reader) (source.reads_made reader'))
  pub ended : source.has_ended reader' ≡ (source.has_ended reader || new.is_ended)
  pub failures : source.failure_count reader' ≡ failures_after (source.failure_count reader) result
