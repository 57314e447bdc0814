-- A feed as its callers see it, and what its calls promise.
use Rattle.std.specs.Prelude.{◌≡◌, ◌⊎◌, ℕ, ◌+◌, ◌-◌, ◌<◌, ◌≤◌, Bool, true, false, ◌||◌, List, [], ◌++◌, length, drop, Option}
use Rattle.std.specs.Prelude.{None, Some, IfSome, IfNone, is_some, Result, Ok, Err, IfOk, MatchOption, ⊤, IsUtf8}
use Rattle.std.specs.Borrow.{Bor}
use Rattle.std.specs.Io.KnownBytes.{prepend_known, Keeps, IsAtEnd}
use Rattle.lbk_feed.specs.declared.traits.Source.{Ghosts as SourceMembers}
use Rattle.lbk_feed.specs.declared.faults.FeedFault.{FeedFault}
use Rattle.lbk_feed.specs.declared.faults.FeedFault.TheVariants.{Read, NotUtf8, TextTooLong, Spent}
use Rattle.lbk_feed.specs.Devices.{KeepsIfTold, Reads, count_up}
use Rattle.lbk_feed.specs.Text.{longest_text, well_formed_prefix, counted, IsCutScalar, IsNotUtf8At, IsTooLong}

-- the bytes that were read and not consumed, those of them that are ready, those that were consumed since the last read
-- and are still at hand, how many were consumed, whether the end was reached, and whether a fault was returned
pub record View : Type 0 where
  pub held : List ℕ
  pub ready : List ℕ
  pub behind : List ℕ
  pub given : ℕ
  pub is_ended : Bool
  pub is_spent : Bool

-- before any call
abbrev pub new_view : View
new_view = record { held = []; ready = []; behind = []; given = 0; is_ended = false; is_spent = false }

-- the last n of the consumed bytes that are still at hand
abbrev pub last_used : View → ℕ → List ℕ
last_used f n = drop (length f.behind - n) f.behind

-- P holds of every text of `given` bytes, as the consumed one
abbrev pub AfterEach : ℕ → (List ℕ → Type 0) → Type 0
AfterEach given P = (used : List ℕ) → IsUtf8 used → length used ≡ given → P used

-- the consumed bytes and the ready ones are the well-formed prefix of the bytes read, within the size limit of a text
abbrev pub IsFront : View → Type 0
IsFront f = AfterEach f.given (λ used. used ++ f.ready ≡ well_formed_prefix (counted (used ++ f.held)))

-- the ready bytes are a text, and a prefix of the held ones
pub record LendsFront (f : View) : Type 0 where
  pub text : IsUtf8 f.ready
  pub rest : List ℕ
  pub first : f.held ≡ f.ready ++ rest
  pub few : f.given + length f.ready ≤ longest_text

-- the bytes held after `given` consumed ones, none of them ready, may still become a piece: they are within the size
-- limit, and they are none, or the first bytes of a scalar
pub record CanGoOn (given : ℕ) (held : List ℕ) : Type 0 where
  pub within : given + length held ≤ longest_text
  pub cut : (held ≡ []) ⊎ IsCutScalar held

-- where a fault is in the bytes read; if it is a failed read, no fault of the text was certain before that
abbrev pub LiesIn : FeedFault → View → Type 0
LiesIn Read f = CanGoOn f.given f.held
LiesIn (NotUtf8 at) f = AfterEach f.given (λ used. IsNotUtf8At (used ++ f.held) f.is_ended at)
LiesIn TextTooLong f = AfterEach f.given (λ used. IsTooLong (used ++ f.held))
LiesIn Spent f = ⊤

-- a fault of the text, not of the reader or of the call
abbrev pub IsOfText : FeedFault → Type 0
IsOfText Read = ⊥
IsOfText (NotUtf8 at) = ⊤
IsOfText TextTooLong = ⊤
IsOfText Spent = ⊥

-- the fault of a result
abbrev pub fault_of : {X : Type 0} → Result X FeedFault → Option FeedFault
fault_of (Ok x) = None
fault_of (Err fault) = Some fault

-- the held bytes and then the unread ones, if the reader tells them
abbrev pub ahead : View → Option (List ℕ) → Option (List ℕ)
ahead f unread = prepend_known f.held unread

-- the bytes ahead stay as they were; after a failed read the reader may not tell them
abbrev pub KeepsAhead : Option FeedFault → Option (List ℕ) → Option (List ℕ) → Type 0
KeepsAhead (Some Read) old new = KeepsIfTold old new
KeepsAhead _ old new = Keeps old new

-- known bytes begin with bs
abbrev pub BeginsWith : List ℕ → Option (List ℕ) → Type 0
BeginsWith bs known = IfSome known (λ xs. (rest : List ℕ) × (xs ≡ bs ++ rest))

-- the feed has reached the end only if its reader has: all its calls use one reader
abbrev pub Agrees : View → Bool → Option (List ℕ) → Type 0
Agrees f ended unread = f.is_ended ≡ true → (ended ≡ true) × IsAtEnd unread

-- a piece is ready, the end was reached, or a fault was returned or is certain from the held bytes: no read is made
abbrev pub IsIdle : View → Type 0
IsIdle f = (0 < length f.ready) ⊎ ((f.is_ended ≡ true) ⊎ ((f.is_spent ≡ true) ⊎ (¬ (CanGoOn f.given f.held))))

-- the count of a reader's failures after a call: one more exactly if the call returned that
abbrev pub failures_with : ℕ → Option FeedFault → ℕ
failures_with n (Some Read) = count_up n
failures_with n _ = n

-- the bytes after a call that may read, and the meaning of its fault; `before` and `after` are the unread bytes
pub record Steps (old new : View) (before after : Option (List ℕ)) (fault : Option FeedFault) : Type 0 where
  pub given : new.given ≡ old.given
  pub ahead_kept : KeepsAhead fault (ahead old before) (ahead new after)
  pub begins : BeginsWith new.held (ahead old before)
  pub got : List ℕ
  pub grown : new.held ≡ old.held ++ got
  pub front : IsFront new
  pub lends : LendsFront new
  pub found : IfNone fault ((0 < length new.ready) ⊎ ((new.held ≡ []) × (new.is_ended ≡ true)))
  pub lies : IfSome fault (λ e. (new.ready ≡ []) × LiesIn e new)
  pub spent : new.is_spent ≡ (old.is_spent || is_some fault)
  pub same : IsIdle old → (new.held ≡ old.held) × (new.ready ≡ old.ready) × (new.is_ended ≡ old.is_ended)

-- no read was made
abbrev pub IsStill : List ℕ → List ℕ → Reads → Reads → Type 0
IsStill held held' from to = (held' ≡ held) × (to ≡ from)

-- reads are made only while the held bytes may become a piece: before the last read, with the bytes of the others, at
-- least one each, they still could
pub record AreDue (given : ℕ) (held held' : List ℕ) (from to : Reads) : Type 0 where
  pub seen : List ℕ
  pub last : List ℕ
  pub grown : held' ≡ held ++ seen ++ last
  pub went_on : CanGoOn given (held ++ seen)
  pub is_last : length last ≡ to.gave
  pub each_gave : to.count ≤ from.count + (length seen + 1)

-- the cost of a call in reads: each except the last returns a byte, and so does the last if the call returns a piece.
-- None is made if a fault is certain, so at most three bytes are held before each, and none is made once more bytes
-- were read than a text may have
pub record Pays (old new : View) (from to : Reads) : Type 0 where
  pub all : 0 < length new.ready → to.count + length old.held ≤ from.count + length new.held
  pub but_one : to.count + length old.held ≤ from.count + length new.held + 1
  pub due : IsStill old.held new.held from to ⊎ AreDue old.given old.held new.held from to
  pub few : from.count < to.count → to.count + length old.held ≤ from.count + 4
  pub within : from.count < to.count → to.count + (old.given + length old.held) ≤ from.count + (longest_text + 1)

-- the feed after a call that may read, with this fault
pub record AfterCall {R : Type 0} (source : SourceMembers R) (old new : View) (reader reader' : R)
    (fault : Option FeedFault) : Type 0 where
  pub steps : Steps old new (source.unread reader) (source.unread reader') fault
  pub pays : Pays old new (source.reads_made reader) (source.reads_made reader')
  pub agrees : Agrees old (source.has_ended reader) (source.unread reader)
      → Agrees new (source.has_ended reader') (source.unread reader')
  pub notices : new.is_ended ≡ false → source.has_ended reader' ≡ source.has_ended reader

-- the fault of a call that may read, and its reads
pub record Asks {R : Type 0} (source : SourceMembers R) (old : View) (reader reader' : R)
    (fault : Option FeedFault) : Type 0 where
  -- `Spent` is returned exactly after another fault
  pub spent : old.is_spent ≡ true → fault ≡ Some Spent
  pub spent_only : fault ≡ Some Spent → old.is_spent ≡ true
  -- where a piece is ready, the end was reached, or a fault was returned or is certain, no read is made
  pub idle : IsIdle old → reader' ≡ reader
  pub read : fault ≡ Some Read → ¬ (IsIdle old)
  pub reads : (source.reads_made reader').count ≤ (source.reads_made reader).count + 4
  -- `Read` is returned exactly where a read failed
  pub failures : source.failure_count reader' ≡ failures_with (source.failure_count reader) fault

-- the feed after the loan of a call's piece has ended
pub record AfterPiece {R : Type 0} (source : SourceMembers R) (old new : View) (reader reader' : R)
    (r : Result (Option (Bor (List ℕ))) FeedFault) : Type 0 where
  pub call : AfterCall source old new reader reader' (fault_of r)
  pub lent : IfOk r (λ o. MatchOption o ((new.held ≡ []) × (new.is_ended ≡ true)) (λ piece. piece.now ≡ new.ready))
