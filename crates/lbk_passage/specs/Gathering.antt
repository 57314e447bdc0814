-- How far a paragraph reaches, and what the steps of gathering it leave.
use Rattle.std.specs.Prelude.{◌≡◌, ◌⊎◌, ℕ, ◌+◌, ◌<◌, ◌≤◌, Bool, true, false, ◌||◌, List, [], ◌∷◌, ◌++◌, length, take}
use Rattle.std.specs.Prelude.{drop, Option, None, Some, Result, Ok, Err, IfOk, IfErr, is_ok, is_some, option_map}
use Rattle.std.specs.Prelude.{encode_utf8, encode_utf8_all, IsUtf8}
use Rattle.std.specs.Str.{chars}
use Rattle.std.specs.Bool.{OnTrue, OnFalse}
use Rattle.std.specs.Io.KnownBytes.{prepend_known}
use Rattle.lbk_feed.specs.declared.faults.FeedFault.{FeedFault}
use Rattle.lbk_feed.specs.Devices.{Reads}
use Rattle.lbk_feed.specs.View.{View, Steps, Pays, BeginsWith, AfterEach, CanGoOn, IsFront, IsStill, LendsFront}
use Rattle.lbk_feed.specs.Text.{longest_text}
use Rattle.lbk_feed.specs.declared.faults.FeedFault.TheVariants.{Read as feed_read, Spent as feed_spent}
use Rattle.lbk_feed.specs.View as feed
use Rattle.lbk_rules.specs.declared.Class.{Class}
use Rattle.lbk_rules.specs.declared.Cell.{Cell}
use Rattle.lbk_values.specs.declared.profile.Profile.{Profile}
use Rattle.lbk_rules.specs.declared.Verdict.{Verdict}
use Rattle.lbk_passage.specs.Faults.{passage_fault}
use Rattle.lbk_rules.specs.Breaks.{is_no}
use Rattle.lbk_rules.specs.Marks.{marks, ended}
use Rattle.lbk_passage.specs.Stays.{ends_at, stays, last_class, IsWholeText}
use Rattle.lbk_passage.specs.State.{bytes_in, State, state_with}
use Rattle.lbk_passage.specs.Next.{failures_with, fault_in, ends_run, KeepsAhead, IsDone, ComesFirst, Stops, Costs}
use Rattle.lbk_passage.specs.declared.faults.PassageFault.{PassageFault}
use Rattle.lbk_passage.specs.declared.faults.PassageFault.TheVariants.{Read, Spent}
use Rattle.lbk_passage.specs.declared.paragraph.Paragraph.{Paragraph}
use Rattle.lbk_passage.specs.declared.reach.Reach.{Reach}
use Rattle.lbk_passage.specs.declared.reach.ReachEnd.{ReachEnd}
use Rattle.lbk_passage.specs.declared.reach.ReachEnd.TheVariants.{PieceEnds, LineEnds, NoRoom}

-- why scalars whose last is of class `last` go no further into what follows them in a piece, where `room` bytes
-- were left before they came
abbrev pub StopsBefore : (ℕ → Cell) → Option Class → ℕ → ℕ → ReachEnd → List ℕ → Type 0
StopsBefore cell last len room PieceEnds rest = rest ≡ []
StopsBefore cell last len room LineEnds rest =
    (c : ℕ) × (cs : List ℕ) × (rest ≡ c ∷ cs) × (ends_at last (cell c).class ≡ true)
StopsBefore cell last len room NoRoom rest =
    (c : ℕ) × (cs : List ℕ) × (rest ≡ c ∷ cs) × (ends_at last (cell c).class ≡ false)
    × (room < len + length (encode_utf8 c))

-- of the scalars of a piece that stands behind one of class `last`, those taken belong to its paragraph
pub record Reaches (cell : ℕ → Cell) (last : Option Class) (piece : List ℕ) (room : ℕ) (r : Reach) : Type 0 where
  pub taken : List ℕ
  pub rest : List ℕ
  pub all : chars piece ≡ taken ++ rest
  pub len : r.len ≡ length (encode_utf8_all taken)
  pub within : r.len ≤ room
  pub none_ends : stays cell last taken ≡ true
  pub last_is : r.last ≡ last_class cell last taken
  pub stop : StopsBefore cell r.last r.len room r.stop rest

-- the first bytes that the feed has ready went to the end of the paragraph
pub record Moves (old new : Paragraph) (len : ℕ) : Type 0 where
  pub feed : new.feed ≡ record old.feed {
    held = drop len old.feed.held;
    ready = drop len old.feed.ready;
    behind = old.feed.behind ++ take len old.feed.ready;
    given = old.feed.given + len;
  }
  pub text : bytes_in new ≡ bytes_in old ++ take len old.feed.ready
  pub limit : new.limit ≡ old.limit
  pub held : new.is_held ≡ old.is_held
  pub spent : new.is_spent ≡ old.is_spent

-- the first bytes that the feed has ready went to the end of the paragraph, which is then held
pub record Holds (old new : Paragraph) (len : ℕ) (end : Option Verdict) : Type 0 where
  pub lends : LendsFront old.feed
  pub moves : Moves old (record new { is_held = old.is_held }) len
  pub end_is : new.end ≡ end
  pub is_held : new.is_held ≡ true

-- the scalars taken went from what the feed holds to the text
pub record Takes (cell : ℕ → Cell) (last : Option Class) (old new : Paragraph) (r : Reach) : Type 0 where
  pub taken : List ℕ
  pub rest : List ℕ
  pub behind : List ℕ
  pub was_ready : chars old.feed.ready ≡ taken ++ rest
  pub is_ready : chars new.feed.ready ≡ rest
  pub utf8 : IsUtf8 new.feed.ready
  pub front : new.feed.held ≡ new.feed.ready ++ behind
  pub few : new.feed.given + length new.feed.ready ≤ longest_text
  pub was_held : old.feed.held ≡ encode_utf8_all taken ++ new.feed.held
  pub is_held : new.feed.held ≡ encode_utf8_all rest ++ behind
  pub text : bytes_in new ≡ bytes_in old ++ encode_utf8_all taken
  pub scalars : chars (bytes_in new) ≡ chars (bytes_in old) ++ taken
  pub given : new.feed.given ≡ old.feed.given + length (encode_utf8_all taken)
  pub ended : new.feed.is_ended ≡ old.feed.is_ended
  pub feed_spent : new.feed.is_spent ≡ old.feed.is_spent
  pub limit : new.limit ≡ old.limit
  pub same_held : new.is_held ≡ old.is_held
  pub same_spent : new.is_spent ≡ old.is_spent
  pub none_ends : stays cell last taken ≡ true
  pub last_is : r.last ≡ last_class cell last taken
  pub stop : StopsBefore cell r.last (length (bytes_in new)) old.limit r.stop rest

-- a step of the feed; the text stays
pub record Settles (old new : Paragraph) (unread unread' : Option (List ℕ)) (ended ended' : Bool) (reads reads' : Reads)
    (r : Result Bool PassageFault) : Type 0 where
  pub text : bytes_in new ≡ bytes_in old
  pub limit : new.limit ≡ old.limit
  pub same_held : new.is_held ≡ old.is_held
  pub fault : Option FeedFault
  pub unspent : ¬ (fault ≡ Some feed_spent)
  pub fault_is : fault_in r ≡ option_map passage_fault fault
  pub spent : new.is_spent ≡ is_some fault
  pub steps : Steps old.feed new.feed unread unread' fault
  pub pays : Pays old.feed new.feed reads reads'
  pub agrees : feed.Agrees old.feed ended unread → feed.Agrees new.feed ended' unread'
  pub notices : new.feed.is_ended ≡ false → ended' ≡ ended
  pub unasked : old.feed.is_ended ≡ true → (reads' ≡ reads) × (¬ (fault ≡ Some feed_read))
  pub stands : IfOk r (λ stands. OnTrue stands (0 < length new.feed.ready))
  pub ends : IfOk r (λ stands. OnFalse stands ((new.feed.held ≡ []) × (new.feed.is_ended ≡ true)))

-- what a step of the feed does with its reader: a failed read is counted, and answered; where a read gave no byte before,
-- none is made, and the answer is this one if nothing is left
pub record ReadsOn {R X : Type 0} (failure_count : R → ℕ) (feed : View) (reader reader' : R) (none : X)
    (r : Result X PassageFault) : Type 0 where
  pub failures : failure_count reader' ≡ failures_with (failure_count reader) (fault_in r)
  pub quiet : feed.is_ended ≡ true → reader' ≡ reader
  pub again : feed.is_ended ≡ true → feed.held ≡ [] → r ≡ Ok none

-- before the last of some reads, from when nothing was gathered, no line must end in what was gathered, and behind it
-- was what may go on: all that was held at first and that the other reads gave
pub record WasOpen (cell : ℕ → Cell) (limit : ℕ) (old : View) (all : List ℕ) (reads reads' : Reads) : Type 0 where
  pub text : List ℕ
  pub utf8 : IsUtf8 text
  pub none_ends : stays cell None (chars text) ≡ true
  pub within : length text ≤ limit
  pub rest : List ℕ
  pub last : List ℕ
  pub bytes : all ≡ text ++ (rest ++ last)
  pub goes_on : CanGoOn (old.given + length text) rest
  pub is_last : length last ≡ reads'.gave
  pub holds : length old.held ≤ length text + length rest
  pub each_gave : reads'.count + length old.held ≤ reads.count + (length text + length rest + 1)

-- what was read from when nothing was gathered, where `all` are the bytes gathered and held
pub record HasRead (cell : ℕ → Cell) (limit : ℕ) (old : View) (all : List ℕ) (unread unread' : Option (List ℕ))
    (reads reads' : Reads)
    (fault : Option PassageFault) : Type 0 where
  pub got : List ℕ
  pub grown : all ≡ old.held ++ got
  pub ahead_kept : KeepsAhead fault (prepend_known old.held unread) (prepend_known all unread')
  pub begins : BeginsWith all (prepend_known old.held unread)
  pub but_one : reads'.count + length old.held ≤ reads.count + length all + 1
  pub within : reads.count < reads'.count → reads'.count + (old.given + length old.held) ≤ reads.count
      + (longest_text + 1)
  pub due : IsStill old.held all reads reads' ⊎ WasOpen cell limit old all reads reads'

-- a paragraph that is being gathered, from when nothing was
pub record Gathering (cell : ℕ → Cell) (old now : Paragraph) (last : Option Class) (unread unread' : Option (List ℕ))
    (ended ended' : Bool) (reads reads' : Reads) : Type 0 where
  pub limit : now.limit ≡ old.limit
  pub open_end : now.is_held ≡ false
  pub unspent : now.is_spent ≡ false
  pub given : now.feed.given ≡ old.feed.given + length (bytes_in now)
  pub read : HasRead cell old.limit old.feed (bytes_in now ++ now.feed.held) unread unread' reads reads' None
  pub each_gave : reads'.count + length old.feed.held ≤ reads.count + length (bytes_in now ++ now.feed.held)
  pub few : reads'.count ≤ reads.count + (length (bytes_in now) + 4)
  pub agrees : feed.Agrees old.feed ended unread → feed.Agrees now.feed ended' unread'
  pub notices : now.feed.is_ended ≡ false → ended' ≡ ended
  pub quiet : old.feed.is_ended ≡ true → (bytes_in now ++ now.feed.held ≡ old.feed.held)
      × (now.feed.is_ended ≡ true) × (reads' ≡ reads)
  pub none_ends : stays cell None (chars (bytes_in now)) ≡ true
  pub last_is : last ≡ last_class cell None (chars (bytes_in now))

-- what gathering leaves, from nothing gathered; `unread`, `ended` and `reads` are the reader's before it, and those
-- with a prime after it
pub record Gathers (cell : ℕ → Cell) (old new : Paragraph) (unread unread' : Option (List ℕ)) (ended ended' : Bool)
    (reads reads' : Reads) (r : Result (Option Verdict) PassageFault) : Type 0 where
  pub limit : new.limit ≡ old.limit
  pub open_end : new.is_held ≡ false
  pub spent : new.is_spent ≡ ends_run (fault_in r)
  pub given : new.feed.given ≡ old.feed.given + length (bytes_in new)
  pub read : HasRead cell old.limit old.feed (bytes_in new ++ new.feed.held) unread unread' reads reads'
      (fault_in r)
  pub each_gave : (ends_run (fault_in r) || new.feed.is_ended) ≡ false
      → reads'.count + length old.feed.held ≤ reads.count + length (bytes_in new ++ new.feed.held)
  pub few : reads'.count ≤ reads.count + (old.limit + 4)
  pub agrees : feed.Agrees old.feed ended unread → feed.Agrees new.feed ended' unread'
  pub notices : new.feed.is_ended ≡ false → ended' ≡ ended
  pub quiet : old.feed.is_ended ≡ true
      → (bytes_in new ++ new.feed.held ≡ old.feed.held) × (new.feed.is_ended ≡ true) × (reads' ≡ reads)
      × (¬ (fault_in r ≡ Some Read))
  pub whole : IfOk r (λ end. IsWholeText cell (bytes_in new) new.feed end)
  pub stops : IfErr r (λ fault. (profile : Profile) → Stops (state_with cell profile new) fault)

-- a paragraph that is held whole, with the verdict at its end, comes first in the text still to come
pub record IsFirst (s : State) (p : Paragraph) (end : Verdict) : Type 0 where
  pub some : 0 < length (chars (bytes_in p))
  pub broken : is_no end.kind ≡ false
  pub comes : ComesFirst s (ended end (marks s.profile s.cell (chars (bytes_in p)))) p.feed.held
  pub counted : s.start + length (bytes_in p) ≤ longest_text
  pub near : (next : ℕ) (rest : List ℕ) → p.feed.held ≡ encode_utf8 next ++ rest
      → p.feed.given + length (encode_utf8 next) ≤ longest_text

-- what the answer of a call that fills a paragraph says
abbrev pub FillAnswers : State → Paragraph → Bool → Result (Option Verdict) PassageFault → Type 0
FillAnswers s p was_spent (Ok None) = IsDone s
FillAnswers s p was_spent (Ok (Some end)) = IsFirst s p end
FillAnswers s p was_spent (Err fault) = ((fault ≡ Spent) × (was_spent ≡ true)) ⊎ Stops s fault

-- what a call that fills a paragraph leaves
pub record Fills (cell : ℕ → Cell) (profile : Profile) (old new : Paragraph) (unread unread' : Option (List ℕ))
    (ended ended' : Bool) (reads reads' : Reads) (r : Result (Option Verdict) PassageFault) : Type 0 where
  pub limit : new.limit ≡ old.limit
  pub answer : FillAnswers (state_with cell profile new) new old.is_spent r
  pub start : (state_with cell profile new).start ≡ (state_with cell profile old).start
  pub in_hand : (new.is_held || new.is_spent) ≡ true
  pub unspent : is_ok r ≡ true → old.is_spent ≡ false
  pub spent : new.is_spent ≡ (old.is_spent || ends_run (fault_in r))
  pub got : List ℕ
  pub grown : (state_with cell profile new).held ≡ (state_with cell profile old).held ++ got
  pub ahead_kept : KeepsAhead (fault_in r) (prepend_known (state_with cell profile old).held unread)
      (prepend_known (state_with cell profile new).held unread')
  pub begins : BeginsWith (state_with cell profile new).held (prepend_known (state_with cell profile old).held unread)
  pub costs : Costs (state_with cell profile old) (state_with cell profile new) (state_with cell profile new).held
      (ends_run (fault_in r)) reads reads'
  pub agrees : feed.Agrees old.feed ended unread → feed.Agrees new.feed ended' unread'
  pub notices : new.feed.is_ended ≡ false → ended' ≡ ended
  pub quiet : old.feed.is_ended ≡ true
      → ((state_with cell profile new).held ≡ (state_with cell profile old).held) × (new.feed.is_ended ≡ true)
      × (reads' ≡ reads) × (¬ (fault_in r ≡ Some Read))
  pub still : (old.is_held || old.is_spent) ≡ true
      → IsStill (state_with cell profile old).held (state_with cell profile new).held reads reads'
      × (¬ (fault_in r ≡ Some Read))

-- what a call that fills a paragraph does with its reader: a failed read is counted, and answered; none is made where
-- the paragraph is held, a fault was answered, or a read gave no byte before
pub record Asks {R : Type 0} (failure_count : R → ℕ) (p : Paragraph) (reader reader' : R) (made made' : ℕ)
    (r : Result (Option Verdict) PassageFault) : Type 0 where
  pub failures : failure_count reader' ≡ failures_with (failure_count reader) (fault_in r)
  pub reads : made' ≤ made + (p.limit + 4)
  pub quiet : p.is_held ≡ true → reader' ≡ reader
  pub spent : p.is_spent ≡ true → reader' ≡ reader
  pub ended : p.feed.is_ended ≡ true → reader' ≡ reader
  pub refused : p.is_spent ≡ true → r ≡ Err Spent

-- the same paragraph, but for whether it is held, and whether it is spent
pub record IsSame (old new : Paragraph) (is_held is_spent : Bool) : Type 0 where
  pub feed : new.feed ≡ old.feed
  pub text : bytes_in new ≡ bytes_in old
  pub limit : new.limit ≡ old.limit
  pub held : new.is_held ≡ is_held
  pub spent : new.is_spent ≡ is_spent
