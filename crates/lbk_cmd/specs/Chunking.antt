-- The lines of the chunks of a window.
use Rattle.std.specs.Prelude.{◌≡◌, ℕ, ◌≤◌, Bool, true, false, List, [], ◌++◌, length, take, Option}
use Rattle.std.specs.Prelude.{Result, Ok, Err, OnOk, OnErr}
use Rattle.lbk_feed.specs.Devices.{failures_after}
use Rattle.lbk_feed.specs.declared.traits.Sink.{Ghosts as SinkMembers}
use Rattle.std.specs.Io.KnownBytes.{Appends}
use Rattle.std.specs.List.{AllByRecursion}
use Rattle.lbk_chunks.specs.declared.chunk.Chunk.{Chunk}
use Rattle.lbk_chunks.specs.Chunks.{cuts_past}
use Rattle.lbk_chunks.specs.Cuts.{AreCutsPast}
use Rattle.lbk_chunk_reader.specs.declared.window.Window.{Window}
use Rattle.lbk_chunk_reader.specs.Settled.{IsOpen, Settle, SettleAll}
use Rattle.lbk_chunk_reader.specs.Between.{AreCutsBetween}
use Rattle.lbk_chunk_reader.specs.Window.{Holds, cuts_in, here_in, keeps_text, limits_in, words_in}
use Rattle.lbk_chunk_reader.specs.Standing.{Stands}
use Rattle.lbk_passage.specs.State.{State}
use Rattle.lbk_cmd.specs.Chunk.{Wanted, chunk_lines}

-- a prefix of the buffered lines and of further ones was written, and the others are buffered
pub record Passes (written written' : Option (List ℕ)) (waiting waiting' line : List ℕ) : Type 0 where
  pub put : List ℕ
  pub wrote : Appends written written' put
  pub is : put ++ waiting' ≡ waiting ++ line

-- a write failed, and a prefix of the buffered lines and of this one was written
abbrev pub Breaks : Option (List ℕ) → Option (List ℕ) → List ℕ → List ℕ → Type 0
Breaks written written' waiting line = (n : ℕ) × Appends written written' (take n (waiting ++ line))

-- a line was appended to the buffer, of which some may be written; or a write failed
abbrev pub Pushes : {X Y : Type 0} → Result X Y → Option (List ℕ) → Option (List ℕ) → List ℕ → List ℕ → List ℕ → Type 0
Pushes (Ok x) written written' waiting waiting' line = Passes written written' waiting waiting' line
Pushes (Err y) written written' waiting waiting' line = Breaks written written' waiting line

-- a chunk of a text
abbrev pub IsIn : List ℕ → Chunk → Type 0
IsIn text c = (c.start ≤ c.end) × (c.end ≤ length text)

-- the cuts of a window rise from its next start on, and its next start is not after the end of its last chunk
pub record IsInOrder (w : Window) : Type 0 where
  pub rising : AreCutsPast (here_in w).start (cuts_in w)
  pub told : (here_in w).start ≤ (here_in w).told

-- the cuts of a window are in a text; the window keeps the text from its next start on if texts are asked for
pub record StandsIn (wanted : Wanted) (text : List ℕ) (w : Window) : Type 0 where
  pub keeps : keeps_text w ≡ wanted.texts
  pub holds : Holds text w
  pub between : AreCutsBetween (here_in w).start (cuts_in w) (length text)

-- a window returned chunks of a text; their lines are buffered or were written
pub record Gave (wanted : Wanted) (text : List ℕ) (is_whole : Bool) (old new : Window)
    (written written' : Option (List ℕ)) (waiting waiting' : List ℕ) : Type 0 where
  pub limits : limits_in new ≡ limits_in old
  pub words : words_in new ≡ words_in old
  pub chunks : List Chunk
  pub within : AllByRecursion (IsIn text) chunks
  pub stands_in : StandsIn wanted text new
  pub stands : (s : State) → Stands old s is_whole → Stands new s is_whole
  pub settle : Settle (limits_in old) is_whole (here_in old) (cuts_in old) chunks (here_in new) (cuts_in new)
  pub passes : Passes written written' waiting waiting' (chunk_lines wanted text chunks)

-- no more chunk is settled, or none is left
abbrev pub Rests : Bool → Window → Type 0
Rests true w = cuts_past (here_in w).told (cuts_in w) ≡ []
Rests false w = IsOpen (limits_in w) (here_in w) (cuts_in w)

-- a write failed: a prefix of the buffered lines and of those of all settled chunks was written
pub record BreaksOff (wanted : Wanted) (text : List ℕ) (is_whole : Bool) (old : Window)
    (written written' : Option (List ℕ)) (waiting : List ℕ) : Type 0 where
  pub chunks : List Chunk
  pub all : SettleAll (limits_in old) is_whole (here_in old) (cuts_in old) chunks
  pub count : ℕ
  pub wrote : Appends written written' (take count (waiting ++ chunk_lines wanted text chunks))

-- the buffered lines were written, and those of all chunks that are left
pub record WritesAll (wanted : Wanted) (text : List ℕ) (old : Window) (written written' : Option (List ℕ))
    (waiting : List ℕ) : Type 0 where
  pub chunks : List Chunk
  pub all : SettleAll (limits_in old) true (here_in old) (cuts_in old) chunks
  pub wrote : Appends written written' (waiting ++ chunk_lines wanted text chunks)

-- what a call does that writes them; or a write failed
pub record WritesLast {W X Y : Type 0} (sink : SinkMembers W) (wanted : Wanted) (window : Window) (old new : W)
    (waiting : List ℕ) (result : Result X Y) : Type 0 where
  pub all : (text : List ℕ) → StandsIn wanted text window
      → OnOk result (WritesAll wanted text window (sink.written old) (sink.written new) waiting)
  pub front : (text : List ℕ) → StandsIn wanted text window
      → OnErr result (BreaksOff wanted text true window (sink.written old) (sink.written new) waiting)
  pub failures : sink.failure_count new ≡ failures_after (sink.failure_count old) result

abbrev pub Gives : {X Y : Type 0} → Wanted → List ℕ → Bool → Window → Window → Option (List ℕ) → Option (List ℕ)
    → List ℕ → List ℕ → Result X Y → Type 0
Gives wanted text is_whole old new written written' waiting waiting' (Ok x) =
    Gave wanted text is_whole old new written written' waiting waiting' × Rests is_whole new
Gives wanted text is_whole old new written written' waiting waiting' (Err y) =
    BreaksOff wanted text is_whole old written written' waiting
