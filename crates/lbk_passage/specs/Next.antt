-- What a call of `next` gives, what it leaves, and what its faults say.
use Rattle.std.specs.Prelude.{◌≡◌, ◌⊎◌, ℕ, ◌+◌, ◌<◌, ◌≤◌, Bool, true, false, ◌||◌, not, List, [], ◌∷◌, ◌++◌, length}
use Rattle.std.specs.Prelude.{Option, None, Some, Result, Ok, Err, IsUtf8, encode_utf8, encode_utf8_all}
use Rattle.std.specs.Io.KnownBytes.{prepend_known, Keeps, IsAtEnd}
use Rattle.lbk_feed.specs.Devices.{KeepsIfTold, Reads, count_up}
use Rattle.lbk_feed.specs.Text.{longest_text, well_formed_prefix, counted, IsNotUtf8At, IsTooLong}
use Rattle.lbk_feed.specs.View.{AfterEach, BeginsWith, CanGoOn, IsStill}
use Rattle.lbk_rules.specs.Marks.{Marked, marks, ended, scalars_of, text_of}
use Rattle.lbk_passage.specs.Passages.{passages}
use Rattle.lbk_passage.specs.Segments.{segments_of}
use Rattle.lbk_passage.specs.Pieces.{pieces_of}
use Rattle.lbk_passage.specs.State.{State}
use Rattle.lbk_passage.specs.declared.faults.PassageFault.{PassageFault}
use Rattle.lbk_passage.specs.declared.faults.PassageFault.TheVariants.{Limit, Memory, Read, NotUtf8, TextTooLong}
use Rattle.lbk_passage.specs.declared.faults.PassageFault.TheVariants.{ParagraphTooLong, Spent}
use Rattle.lbk_passage.specs.declared.passage.Passage.{Passage}

-- the fault of an answer
abbrev pub fault_in : {X : Type 0} → Result X PassageFault → Option PassageFault
fault_in (Ok x) = None
fault_in (Err fault) = Some fault

-- the bytes of the passage that an answer lends
abbrev pub lent_text : Result (Option Passage) PassageFault → List ℕ
lent_text (Ok None) = []
lent_text (Ok (Some p)) = p.text.now
lent_text (Err fault) = []

abbrev pub lends : Result (Option Passage) PassageFault → Bool
lends (Ok None) = false
lends (Ok (Some p)) = true
lends (Err fault) = false

-- the segmenter gives nothing more after it: want of memory alone leaves the call to be made again
abbrev pub ends_run : Option PassageFault → Bool
ends_run None = false
ends_run (Some Memory) = false
ends_run (Some _) = true

-- the count of a reader's failures after a call: one more exactly where the call answered so
abbrev pub failures_with : ℕ → Option PassageFault → ℕ
failures_with n (Some Read) = count_up n
failures_with n _ = n

-- the bytes ahead stay as they were; a failed read may keep the reader from telling them
abbrev pub KeepsAhead : Option PassageFault → Option (List ℕ) → Option (List ℕ) → Type 0
KeepsAhead (Some Read) old new = KeepsIfTold old new
KeepsAhead _ old new = Keeps old new

-- what a passage says, where these are its marks; they are those of its text alone, but for the last verdict
pub record IsPassage (s : State) (ms : List Marked) (p : Passage) : Type 0 where
  pub some : 0 < length ms
  pub text : p.text.now ≡ text_of ms
  pub utf8 : IsUtf8 p.text.now
  pub segments : p.segments.now ≡ segments_of ms
  pub pieces : p.pieces.now ≡ pieces_of s.cell (text_of ms)
  pub alone : ms ≡ ended p.end (marks s.profile s.cell (scalars_of ms))

-- a scalar follows some marks, so that they are the first passage of every text that goes on with it
pub record GoesOn (s : State) (ms : List Marked) (behind : List ℕ) : Type 0 where
  pub next : ℕ
  pub rest : List ℕ
  pub bytes : behind ≡ encode_utf8 next ++ rest
  pub scalar : IsUtf8 (encode_utf8 next)
  pub first : (more : List ℕ) → passages s.profile s.cell (scalars_of ms ++ next ∷ more)
      ≡ ms ∷ passages s.profile s.cell (next ∷ more)

-- the text ends behind them, and they are its one passage
pub record IsLast (s : State) (ms : List Marked) (behind : List ℕ) : Type 0 where
  pub none : behind ≡ []
  pub at_end : s.is_ended ≡ true
  pub first : passages s.profile s.cell (scalars_of ms) ≡ ms ∷ []

-- these marks are the first passage of the text still to come, whose bytes behind it are `behind`
pub record ComesFirst (s : State) (ms : List Marked) (behind : List ℕ) : Type 0 where
  pub within : length (text_of ms) ≤ s.limit
  pub follows : GoesOn s ms behind ⊎ IsLast s ms behind

-- a passage is not empty, and all of it lies within the bytes that a text may have
abbrev pub IsPlaced : Passage → Type 0
IsPlaced p = (0 < length p.text.now) × (p.start + length p.text.now ≤ longest_text)

-- an answer lends the first passage of the text still to come
pub record Lends (old new : State) (p : Passage) : Type 0 where
  pub marks : List Marked
  pub passage : IsPassage old marks p
  pub start : p.start ≡ old.start
  pub comes : ComesFirst new marks new.held
  pub counted : old.start + length p.text.now ≤ longest_text
  pub near : (next : ℕ) (rest : List ℕ) → new.held ≡ encode_utf8 next ++ rest
      → old.start + length p.text.now + length (encode_utf8 next) ≤ longest_text

-- nothing is left to give
pub record IsDone (s : State) : Type 0 where
  pub none : s.held ≡ []
  pub at_end : s.is_ended ≡ true

-- memory could not grow: the passage is held whole, and was not given. It and the scalar behind it lie within the bytes
-- that a text may have
pub record Waits (s : State) : Type 0 where
  pub marks : List Marked
  pub some : 0 < length marks
  pub behind : List ℕ
  pub bytes : s.held ≡ text_of marks ++ behind
  pub comes : ComesFirst s marks behind
  pub counted : s.start + length (text_of marks) ≤ longest_text
  pub near : (next : ℕ) (rest : List ℕ) → behind ≡ encode_utf8 next ++ rest
      → s.start + length (text_of marks) + length (encode_utf8 next) ≤ longest_text

-- some passages begin with one that holds all these scalars, if there are any
pub record BeginsWithAll (scalars : List ℕ) (ps : List (List Marked)) : Type 0 where
  pub first : List Marked
  pub others : List (List Marked)
  pub behind : List ℕ
  pub is : ps ≡ first ∷ others
  pub holds : scalars_of first ≡ scalars ++ behind

-- where a fault of the text lies: behind the scalars seen, and for too long a paragraph, in their last. A failed read
-- is the answer only where the bytes behind them may still go on to a scalar
abbrev pub LiesBehind : PassageFault → State → List ℕ → List ℕ → Type 0
LiesBehind Limit s seen rest = ⊥
LiesBehind Memory s seen rest = ⊥
LiesBehind Read s seen rest = (length (encode_utf8_all seen) ≤ s.limit)
    × CanGoOn (s.start + length (encode_utf8_all seen)) rest
LiesBehind (NotUtf8 at) s seen rest = (length (encode_utf8_all seen) ≤ s.limit)
    × AfterEach s.start (λ used. IsNotUtf8At (used ++ s.held) s.is_ended at)
LiesBehind TextTooLong s seen rest = (length (encode_utf8_all seen) ≤ s.limit)
    × AfterEach s.start (λ used. IsTooLong (used ++ s.held))
LiesBehind (ParagraphTooLong start) s seen rest = (start ≡ s.start)
    × ((front : List ℕ) × (last : ℕ) × (seen ≡ front ++ last ∷ []) × (length (encode_utf8_all front) ≤ s.limit)
    × (s.limit < length (encode_utf8_all seen)))
LiesBehind Spent s seen rest = ⊥

-- the scalars seen are all well-formed bytes held, but where the paragraph is too long, which is known sooner
abbrev pub IsAllSeen : PassageFault → State → List ℕ → Type 0
IsAllSeen (ParagraphTooLong start) s seen = Unit {0}
IsAllSeen _ s seen = AfterEach s.start (λ used. used ++ encode_utf8_all seen
    ≡ well_formed_prefix (counted (used ++ s.held)))

-- the segmenter stops by a fault of its reader or its text. The scalars seen, which begin the bytes held, are at most
-- one passage, and begin the first passage of every text that goes on from them. All of them lie within the bytes
-- that a text may have
pub record Stops (s : State) (fault : PassageFault) : Type 0 where
  pub seen : List ℕ
  pub rest : List ℕ
  pub bytes : s.held ≡ encode_utf8_all seen ++ rest
  pub text : IsUtf8 (encode_utf8_all seen)
  pub few : length (passages s.profile s.cell seen) ≤ 1
  pub unfinished : 0 < length seen → (more : List ℕ) → BeginsWithAll seen (passages s.profile s.cell (seen ++ more))
  pub counted : s.start + length (encode_utf8_all seen) ≤ longest_text
  pub all_seen : IsAllSeen fault s seen
  pub lies : LiesBehind fault s seen rest

-- what an answer says
abbrev pub Answers : State → State → Result (Option Passage) PassageFault → Type 0
Answers old new (Ok None) = IsDone new
Answers old new (Ok (Some p)) = Lends old new p
Answers old new (Err Memory) = Waits new
Answers old new (Err Spent) = old.is_spent ≡ true
Answers old new (Err fault) = Stops new fault

-- the bytes held settle no passage: the scalars seen, which begin them, are at most one passage, and begin the first
-- passage of every text that goes on from them. They are all well-formed bytes held, or go past the limit
pub record IsOpen (s : State) : Type 0 where
  pub seen : List ℕ
  pub rest : List ℕ
  pub bytes : s.held ≡ encode_utf8_all seen ++ rest
  pub text : IsUtf8 (encode_utf8_all seen)
  pub few : length (passages s.profile s.cell seen) ≤ 1
  pub unfinished : 0 < length seen → (more : List ℕ) → BeginsWithAll seen (passages s.profile s.cell (seen ++ more))
  pub all_seen : (s.limit < length (encode_utf8_all seen))
      ⊎ AfterEach s.start (λ used. used ++ encode_utf8_all seen ≡ well_formed_prefix (counted (used ++ s.held)))

-- the cells, the profile and the limit stay
pub record DecidesAlike (old new : State) : Type 0 where
  pub cell : new.cell ≡ old.cell
  pub profile : new.profile ≡ old.profile
  pub limit : new.limit ≡ old.limit

-- reads are made only while no passage and no fault is certain: before the last of them, those held at first and
-- those that the other reads gave, at least one each, settle none. Of `all`, the bytes held in the end and those
-- given, these are all but the bytes of the last read. They are scalars within the limit that are at most one
-- passage, and begin the first passage of every text that goes on from them, and behind them nothing, or the first
-- bytes of a scalar
pub record WereDue (s : State) (all : List ℕ) (from to : Reads) : Type 0 where
  pub seen : List ℕ
  pub rest : List ℕ
  pub last : List ℕ
  pub bytes : all ≡ encode_utf8_all seen ++ (rest ++ last)
  pub text : IsUtf8 (encode_utf8_all seen)
  pub few : length (passages s.profile s.cell seen) ≤ 1
  pub unfinished : 0 < length seen → (more : List ℕ) → BeginsWithAll seen (passages s.profile s.cell (seen ++ more))
  pub within : length (encode_utf8_all seen) ≤ s.limit
  pub goes_on : CanGoOn (s.start + length (encode_utf8_all seen)) rest
  pub is_last : length last ≡ to.gave
  pub holds : length s.held ≤ length (encode_utf8_all seen) + length rest
  pub each_gave : to.count + length s.held ≤ from.count + (length (encode_utf8_all seen) + length rest + 1)

-- what the reads of a call cost, from those made before it to those made after, where `all` are the bytes held in the
-- end and those given: each read gives a byte, but perhaps the last, where the end was met or the run stops; none is
-- made once more bytes were read than a text may have, nor where a passage or a fault is certain
pub record Costs (old new : State) (all : List ℕ) (stops : Bool) (from to : Reads) : Type 0 where
  pub each_gave : (stops || new.is_ended) ≡ false → to.count + length old.held ≤ from.count + length all
  pub but_one : to.count + length old.held ≤ from.count + length all + 1
  pub within : from.count < to.count → to.count + (old.start + length old.held) ≤ from.count + (longest_text + 1)
  pub due : IsStill old.held all from to ⊎ WereDue old all from to

-- the segmenter has met the end only where its reader has: one reader serves all its calls
abbrev pub Agrees : State → Bool → Option (List ℕ) → Type 0
Agrees s ended unread = s.is_ended ≡ true → (ended ≡ true) × IsAtEnd unread

-- what the segmenter is once the passage that a call lent is given back; `unread`, `ended` and `reads` are the
-- reader's before the call, and those with a prime after it
pub record AfterNext (old new : State) (unread unread' : Option (List ℕ)) (ended ended' : Bool) (reads reads' : Reads)
    (r : Result (Option Passage) PassageFault) : Type 0 where
  pub alike : DecidesAlike old new
  pub answer : Answers old new r
  pub start : new.start ≡ old.start + length (lent_text r)
  pub spent : new.is_spent ≡ (old.is_spent || ends_run (fault_in r))
  pub settled : new.is_settled ≡ not (lends r)
  pub got : List ℕ
  pub grown : lent_text r ++ new.held ≡ old.held ++ got
  pub ahead_kept : KeepsAhead (fault_in r) (prepend_known old.held unread)
      (prepend_known (lent_text r ++ new.held) unread')
  pub begins : BeginsWith (lent_text r ++ new.held) (prepend_known old.held unread)
  pub costs : Costs old new (lent_text r ++ new.held) (ends_run (fault_in r)) reads reads'
  pub agrees : Agrees old ended unread → Agrees new ended' unread'
  pub notices : new.is_ended ≡ false → ended' ≡ ended
  pub quiet : old.is_ended ≡ true → (lent_text r ++ new.held ≡ old.held) × (new.is_ended ≡ true) × (reads' ≡ reads)
      × (¬ (fault_in r ≡ Some Read))
  pub still : old.is_settled ≡ true → IsStill old.held (lent_text r ++ new.held) reads reads'
      × (¬ (fault_in r ≡ Some Read))

-- what a call that goes to the next passage does, from this state on: what it answers where nothing comes any more, and
-- how often it reads
pub record GoesOnce {R X : Type 0} (s : State) (reader reader' : R) (made made' : ℕ)
    (r : Result (Option X) PassageFault) : Type 0 where
  -- a fault was answered before: `Spent` says so, and nothing else
  pub spent : s.is_spent ≡ true → r ≡ Err Spent
  pub spent_only : r ≡ Err Spent → s.is_spent ≡ true
  -- `None` stays: it leaves nothing held and the end reached
  pub again : IsDone s → s.is_spent ≡ false → r ≡ Ok None
  -- where the answer was seen before, a fault was answered, or a read gave no byte, no read is made
  pub settled : s.is_settled ≡ true → reader' ≡ reader
  pub ended : s.is_ended ≡ true → reader' ≡ reader
  pub reads : made' ≤ made + (s.limit + 8)
