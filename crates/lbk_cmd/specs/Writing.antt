-- What the calls promise that write buffered lines, or add to them: each set of clauses once.
use Rattle.std.specs.Prelude.{◌≡◌, ℕ, ◌⊎◌, true, List, [], take, Result, Ok, OnOk, OnErr}
use Rattle.std.specs.Io.KnownBytes.{Appends}
use Rattle.lbk_feed.specs.Devices.{failures_after}
use Rattle.lbk_feed.specs.declared.traits.Sink.{Ghosts as SinkMembers}
use Rattle.lbk_passage.specs.State.{State}
use Rattle.lbk_cmd.specs.Chunking.{Pushes}
use Rattle.lbk_cmd.specs.Gathering.{HasWritten}

-- the buffered lines were written, and none is left; or a write failed, and a prefix of them was
pub record WritesOut {W Y : Type 0} (sink : SinkMembers W) (old new : W) (before after : List ℕ)
    (result : Result (Unit {0}) Y) : Type 0 where
  pub written : OnOk result (HasWritten (sink.written old) (sink.written new) before after)
  pub front : OnErr result ((n : ℕ) × Appends (sink.written old) (sink.written new) (take n before))
  pub failures : sink.failure_count new ≡ failures_after (sink.failure_count old) result
  pub nothing : before ≡ [] → (result ≡ Ok (tt {0})) × (new ≡ old)

-- the same, or the bytes that a segmenter has read settle the next passage
pub record WritesDue {W Y : Type 0} (sink : SinkMembers W) (old new : W) (s s' : State) (before after : List ℕ)
    (result : Result (Unit {0}) Y) : Type 0 where
  pub state : s' ≡ record s { is_settled = s'.is_settled }
  pub due : OnOk result (HasWritten (sink.written old) (sink.written new) before after
      ⊎ ((after ≡ before) × (new ≡ old) × (s'.is_settled ≡ true)))
  pub front : OnErr result ((n : ℕ) × Appends (sink.written old) (sink.written new) (take n before))
  pub failures : sink.failure_count new ≡ failures_after (sink.failure_count old) result

-- bytes were added to the buffered lines, of which some may be written; or a write failed
pub record PutsBehind {W Y : Type 0} (sink : SinkMembers W) (old new : W) (before after bytes : List ℕ)
    (result : Result (Unit {0}) Y) : Type 0 where
  pub line : Pushes result (sink.written old) (sink.written new) before after bytes
  pub failures : sink.failure_count new ≡ failures_after (sink.failure_count old) result
