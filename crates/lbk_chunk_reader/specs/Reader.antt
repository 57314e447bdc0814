-- What a chunker shows, and what a call returns.
use Rattle.std.specs.Prelude.{◌≡◌, ◌⊎◌, ℕ, ◌+◌, ◌<◌, ◌≤◌, Bool, true, false, ◌||◌, List, [], ◌∷◌, ◌++◌, Option, None, Some, Result}
use Rattle.std.specs.Prelude.{Ok, Err, encode_utf8_all, if◌then◌else◌, length}
use Rattle.std.specs.Str.{IsUtf8}
use Rattle.lbk_feed.specs.Runs.{Took}
use Rattle.lbk_feed.specs.Text.{longest_text}
use Rattle.lbk_rules.specs.declared.Cell.{Cell}
use Rattle.lbk_values.specs.declared.profile.Profile.{Profile}
use Rattle.lbk_chunks.specs.declared.chunk.Chunk.{Chunk}
use Rattle.lbk_chunks.specs.declared.chunk.Limits.{Limits}
use Rattle.lbk_chunks.specs.declared.cut.Cut.{Cut}
use Rattle.lbk_chunks.specs.declared.chunk.Here.{Here}
use Rattle.lbk_chunks.specs.Chunks.{AreChunks, text_start}
use Rattle.lbk_passage.specs.Next.{IsDone, Stops}
use Rattle.lbk_passage.specs.Passages.{passages}
use Rattle.lbk_passage.specs.State.{State, new_state}
use Rattle.lbk_passage.specs.declared.faults.PassageFault.{PassageFault}
use Rattle.lbk_passage.specs.declared.faults.PassageFault.TheVariants.{Memory, Read, Spent}
use Rattle.lbk_chunk_reader.specs.Cuts.{cuts_of_passages}
use Rattle.lbk_chunk_reader.specs.Numbered.{numbered_chunk}
use Rattle.lbk_chunk_reader.specs.declared.cut.Chunk as given

-- the limits, the cuts held and where the next chunk starts; the segmenter, and how many words its passages had
pub record View : Type 0 where
  pub limits : Limits
  pub cuts : List Cut
  pub here : Here
  pub passages : State
  pub words : ℕ

-- before any call
abbrev pub new_view : (ℕ → Cell) → Profile → Limits → ℕ → View
new_view cell profile limits limit = record {
  limits = limits;
  cuts = [];
  here = text_start;
  passages = new_state cell profile limit;
  words = 0;
}

-- the cuts held, and those of the scalars that are left
abbrev pub cuts_with : View → List ℕ → List Cut
cuts_with v scalars = v.cuts ++ cuts_of_passages v.passages.cell v.passages.start v.words
    (passages v.passages.profile v.passages.cell scalars)

-- if these are the bytes of the scalars that are left, some of them held, then these chunks are left
abbrev pub ChunksCome : View → List ℕ → List Chunk → Type 0
ChunksCome v scalars chunks = AreChunks v.limits (cuts_with v scalars) v.here chunks

-- the scalars that are left are the bytes held and more, but no more if the text has ended
pub record MayCome (v : View) (scalars more : List ℕ) : Type 0 where
  pub bytes : encode_utf8_all scalars ≡ v.passages.held ++ more
  pub utf8 : IsUtf8 (encode_utf8_all scalars)
  pub ended : v.passages.is_ended ≡ true → more ≡ []

-- from one state to another these bytes were read, these scalars passed and these chunks returned: together with any
-- scalars and chunks left after them, they are those that were left before
pub record HasGiven (old new : View) (got scalars : List ℕ) (given : List Chunk) : Type 0 where
  pub bytes : encode_utf8_all scalars ++ new.passages.held ≡ old.passages.held ++ got
  pub utf8 : IsUtf8 (encode_utf8_all scalars)
  pub ended : old.passages.is_ended ≡ true → (got ≡ []) × (new.passages.is_ended ≡ true)
  pub chunks : (behind more : List ℕ) (later : List Chunk) → MayCome new behind more → ChunksCome new behind later
      → ChunksCome old (scalars ++ behind) (given ++ later)

-- the same, with what the reader lost
pub record Goes (old new : View) (failed : Bool) (unread unread' : Option (List ℕ)) (chunks : List Chunk) : Type 0 where
  pub got : List ℕ
  pub scalars : List ℕ
  pub took : Took failed unread unread' got
  pub given : HasGiven old new got scalars chunks

-- why a call fails: out of memory; because an earlier one did; or by a fault where the segmenter stops, with no chunk
-- that was left lost
abbrev pub IsStopped : View → View → Option (List ℕ) → Option (List ℕ) → Bool → PassageFault → Type 0
IsStopped old new unread unread' was_spent Memory = Unit {0}
IsStopped old new unread unread' was_spent Spent = was_spent ≡ true
IsStopped old new unread unread' was_spent Read = Goes old new true unread unread' [] × Stops new.passages Read
IsStopped old new unread unread' was_spent fault = Goes old new false unread unread' [] × Stops new.passages fault

-- all chunks were returned
abbrev pub IsOver : View → Type 0
IsOver v = IsDone v.passages × ChunksCome v [] []

-- each read gave a byte, but the one that met the end; where a call stops, one read may have failed
abbrev pub ReadsEach : State → State → Bool → ℕ → ℕ → Type 0
ReadsEach old new stops made made' =
    made' + (old.start + length old.held) + (if stops || new.is_ended then 0 else 1)
    ≤ made + (new.start + length new.held) + (if old.is_ended then 0 else 1)

-- what a call returns: the next chunk; none if all were returned; or a fault
abbrev pub Answers : View → View → Option (List ℕ) → Option (List ℕ) → Bool → Result (Option given.Chunk) PassageFault
    → Type 0
Answers old new unread unread' was_spent (Ok (Some chunk)) =
    Goes old new false unread unread' (numbered_chunk chunk ∷ [])
Answers old new unread unread' was_spent (Ok None) = Goes old new false unread unread' [] × IsOver new
Answers old new unread unread' was_spent (Err fault) = IsStopped old new unread unread' was_spent fault

-- a passage was read, or the last one was
abbrev pub Progresses : View → View → Bool → Type 0
Progresses old new is_whole = ((is_whole ≡ true) × (new.passages.start ≡ old.passages.start))
    ⊎ ((is_whole ≡ false) × (old.passages.start < new.passages.start) × (new.passages.start ≤ longest_text))

-- a call that reads the next passage
abbrev pub ReadsOn : {X : Type 0} → View → View → Option (List ℕ) → Option (List ℕ) → Bool → Result X PassageFault
    → Type 0
ReadsOn old new unread unread' is_whole (Ok x) = Goes old new false unread unread' [] × Progresses old new is_whole
ReadsOn old new unread unread' is_whole (Err fault) = IsStopped old new unread unread' false fault
