-- Breaks of the bytes that are ready, found ahead of the passages that they end.
use Rattle.std.specs.Prelude.{◌≡◌, ◌⊎◌, ℕ, suc, zero, ◌+◌, ◌-◌, ◌<◌, ◌≤◌, ◌||◌, false, true, Some, None, Option, IsCharBoundary, All, List, [], ◌∷◌, ◌++◌, length, map, drop, take}
use Rattle.std.specs.Str.{chars}
use Rattle.lbk_rules.specs.declared.Break.{Break}
use Rattle.lbk_rules.specs.declared.Cell.{Cell}
use Rattle.lbk_rules.specs.declared.Verdict.{Verdict}
use Rattle.lbk_values.specs.declared.profile.Profile.{Profile}
use Rattle.lbk_rules.specs.Breaks.{breaks}
use Rattle.lbk_rules.specs.Joins.{moved}
use Rattle.lbk_rules.specs.Marks.{marks, ended}
use Rattle.lbk_passage.specs.Cuts.{cut_at, cut_on, musts}
use Rattle.lbk_passage.specs.Front.{items_of}
use Rattle.lbk_passage.specs.Gathering.{Reaches}
use Rattle.lbk_passage.specs.Passages.{is_must}
use Rattle.lbk_passage.specs.Segments.{segments_of}
use Rattle.lbk_passage.specs.State.{bytes_in}
use Rattle.lbk_passage.specs.Stays.{end_before}
use Rattle.lbk_passage.specs.declared.ahead.Ahead.{Ahead}
use Rattle.lbk_passage.specs.declared.front.Front.{Front}
use Rattle.lbk_passage.specs.declared.paragraph.Paragraph.{Paragraph}
use Rattle.lbk_passage.specs.declared.paragraph.Told.{Told}
use Rattle.lbk_passage.specs.declared.passage.Segment.{Segment}
use Rattle.lbk_passage.specs.declared.reach.Reach.{Reach}
use Rattle.lbk_passage.specs.declared.reach.ReachEnd.TheVariants.{LineEnds}

-- there are places for 1,024 breaks, and as many for the segments that end at them and for the places of some
abbrev pub AreWhole : Ahead → Type 0
AreWhole a = (length a.block ≡ 1024) × (length a.segments ≡ 1024) × (length a.ends ≡ 1024)

-- the segments of the passage taken last stand before those of the bytes that are ready
abbrev pub HasSizes : Ahead → Type 0
HasSizes a = (a.told ≤ a.next) × (a.next ≤ 1024) × (length a.segments ≡ 1024)

-- the segments that end at these breaks of the bytes that are ready stand from `next` on, and the places of those at which
-- a line must end are the next ones that were noted
pub record HasAhead (a : Ahead) (found : List Break) : Type 0 where
  pub whole : AreWhole a
  pub within : a.next + a.left ≤ 1024
  pub before : a.told ≤ a.next
  pub cut : take a.left (drop a.next a.segments) ≡ cut_on 0 0 found
  pub few : (a.next_end ≤ a.ends_count) × (a.ends_count ≤ 1024)
  pub ends : drop a.next_end (take a.ends_count a.ends) ≡ musts a.next found

-- they are the first breaks of these bytes
abbrev pub IsAhead : Profile → (ℕ → Cell) → List ℕ → Ahead → Type 0
IsAhead profile cell ready a = HasAhead a (take a.left (breaks profile cell (chars ready)))

-- of some breaks so many are those up to the first at which a line must end, which stands before byte `len`
pub record EndsFirst (found : List Break) (len count : ℕ) : Type 0 where
  pub front : List Break
  pub last : Break
  pub rest : List Break
  pub all : found ≡ front ++ last ∷ rest
  pub counted : count ≡ length front + 1
  pub none : All (λ b. is_must b.kind ≡ false) front
  pub must : is_must last.kind ≡ true
  pub near : last.at < len

-- so many of the bytes that are ready are the text of a paragraph, of which nothing is gathered
pub record IsTold (cell : ℕ → Cell) (p : Paragraph) (told : Told) : Type 0 where
  pub fresh : (p.is_held || p.is_spent) ≡ false
  pub some : 0 < length p.feed.ready
  pub boundary : IsCharBoundary p.feed.ready told.len
  pub reach : Reach
  pub reaches : Reaches cell None p.feed.ready p.limit reach
  pub len : told.len ≡ reach.len
  pub stop : reach.stop ≡ LineEnds
  pub end : Some told.end ≡ end_before reach.last true

-- the paragraph that was told is held
pub record GivesTold (old new : Paragraph) (told : Told) : Type 0 where
  pub end : new.end ≡ Some told.end
  pub text : bytes_in new ≡ take told.len old.feed.ready
  pub ready : new.feed.ready ≡ drop told.len old.feed.ready

-- the segments of the passage taken last
abbrev pub segments_told : Ahead → List Segment
segments_told a = take a.told (drop (a.next - a.told) a.segments)

-- the first of two where a number is 0, else the second
abbrev pub by_count : {X : Type 0} → ℕ → X → X → X
by_count zero none some = none
by_count (suc n) none some = some

-- these, where the passage was taken by breaks, else those in a list
abbrev pub segments_in : Ahead → Front Segment → List Segment
segments_in a list = by_count a.told (items_of list) (segments_told a)

-- they are those of a passage of this text
pub record HasTold (profile : Profile) (cell : ℕ → Cell) (text : List ℕ) (end : Verdict) (a : Ahead) : Type 0 where
  pub some : 0 < a.told
  pub cut : segments_told a ≡ segments_of (ended end (marks profile cell (chars text)))

-- so they are where the paragraph is held, if there are any
abbrev pub KeepsTold : Profile → (ℕ → Cell) → Paragraph → Ahead → Type 0
KeepsTold profile cell p a = p.is_held ≡ true → 0 < a.told → (end : Verdict) → p.end ≡ Some end
    → HasTold profile cell (bytes_in p) end a

-- the passage of these breaks was taken
pub record TakesBy (old new : Ahead) (told : Told) (front : List Break) (last : Break) (rest : List Break) : Type 0 where
  pub len : told.len ≡ last.at
  pub end : told.end ≡ record { kind = last.kind; rule = last.rule }
  pub some : 0 < new.told
  pub cut : segments_told new ≡ cut_at 0 (front ++ last ∷ [])
  pub behind : (others : List Break) → rest ≡ map (moved last.at) others → HasAhead new others

-- the passage of the first `count` breaks was taken, unless it has more than `limit` bytes
abbrev pub TakesTold : Ahead → Ahead → ℕ → ℕ → Option Told → Type 0
TakesTold old new count limit None = new ≡ record old { ends_count = 0; next_end = 0; left = 0; told = 0 }
TakesTold old new count limit (Some told) = (told.len ≤ limit)
    × ((found : List Break) (len : ℕ) → HasAhead old found → (e : EndsFirst found len count)
    → TakesBy old new told e.front e.last e.rest)

-- breaks told of a passage at the front of the bytes that are ready. Else none is held, but where a paragraph is in hand
-- already, which leaves all as it was
abbrev pub Tells : Profile → (ℕ → Cell) → Paragraph → Ahead → Ahead → Option Told → Type 0
Tells profile cell p old new None = (((p.is_held || p.is_spent) ≡ true) × (new ≡ old))
    ⊎ (((p.is_held || p.is_spent) ≡ false) × ((ready : List ℕ) → IsAhead profile cell ready new) × (new.told ≡ 0))
Tells profile cell p old new (Some told) = IsTold cell p told × IsAhead profile cell (drop told.len p.feed.ready) new
    × HasTold profile cell (take told.len p.feed.ready) told.end new
