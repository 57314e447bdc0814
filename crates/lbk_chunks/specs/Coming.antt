-- What is left of a text from a place on.
use Rattle.std.specs.Prelude.{◌≡◌, ℕ, suc, nat_le, true, ◌+◌, ◌-◌, ◌<◌, ◌≤◌, ◌==◌, List, [], ◌∷◌, ◌++◌, drop, length, map, min}
use Rattle.std.specs.Prelude.{◌⊎◌, take, slice_index_or, Option, Some, None, if◌then◌else◌}
use Rattle.std.specs.List.{list_all}
use Rattle.lbk_rules.specs.declared.Break.{Break}
use Rattle.lbk_rules.specs.declared.Cell.{Cell}
use Rattle.lbk_rules.specs.declared.neighbours.Neighbours.{Neighbours}
use Rattle.lbk_bytes.specs.declared.raw_break.RawBreak.{RawBreak}
use Rattle.lbk_bytes.specs.Shown.{raw_of}
use Rattle.lbk_calls.specs.declared.interface.State.{State}
use Rattle.lbk_calls.specs.Coming.{Comes}
use Rattle.lbk_calls.specs.State.{start_in}
use Rattle.lbk_values.specs.declared.profile.Profile.{Profile}
use Rattle.lbk_words.specs.declared.word.Word.{Word}
use Rattle.lbk_words.specs.Words.{words_on}
use Rattle.lbk_chunks.specs.declared.chunk.Chunk.{Chunk}
use Rattle.lbk_chunks.specs.declared.chunk.ChunkState.{ChunkState}
use Rattle.lbk_chunks.specs.declared.chunk.Limits.{Limits}
use Rattle.lbk_chunks.specs.declared.cut.Cut.{Cut}
use Rattle.lbk_chunks.specs.declared.cut.Place.{Place}
use Rattle.lbk_chunks.specs.declared.cursor.Filled.{Filled}
use Rattle.lbk_chunks.specs.declared.cursor.NextBreaks.{NextBreaks}
use Rattle.lbk_chunks.specs.declared.cut_block.CutBlock.{CutBlock}
use Rattle.lbk_chunks.specs.declared.cut.Mark.{Mark}
use Rattle.lbk_chunks.specs.declared.word_block.WordBlock.{WordBlock}
use Rattle.lbk_chunks.specs.declared.window.Window.{Window}
use Rattle.lbk_chunks.specs.declared.chunking.Fitting.{Fitting}
use Rattle.lbk_chunks.specs.declared.chunking.Given.{Given}
use Rattle.lbk_chunks.specs.declared.chunk.Here.{Here}
use Rattle.lbk_chunks.specs.Chunks.{AreChunks, after, are_limits, chunk_to, cuts_past, end_of, fits, fitting}
use Rattle.lbk_chunks.specs.Chunks.{last_early, last_of}
use Rattle.lbk_chunks.specs.Cuts.{cuts_among}
pub use Rattle.lbk_chunks.specs.Blocks.{no_cut}
pub use Rattle.lbk_chunks.specs.Cuts.{AreCutsPast}

-- the word that was read and not passed
abbrev pub held : Word → ℕ
held word = if word.end == 0 then 0 else 1

abbrev pub waiting : Word → List Word
waiting word = if word.end == 0 then [] else word ∷ []

-- the words that are left
abbrev pub words_ahead : List ℕ → Place → List Word
words_ahead text place = waiting place.word ++ words_on text place.from

-- how far it is to a byte from a place whose word ends there or before it
abbrev pub left : ℕ → Place → ℕ
left at place =
    if place.word.end == 0 then 0 else (if nat_le place.word.end at then suc (at - place.from) else 0)

-- how many more breaks a call may return from a state
abbrev pub breaks_left : List ℕ → State → ℕ
breaks_left text state = (length text - state.at) + (1 - state.ended)

-- words in rising order, from a byte on
abbrev pub AreOnward : ℕ → List Word → Type 0
AreOnward from [] = Unit {0}
AreOnward from (w ∷ ws) = (from ≤ w.start) × (w.start ≤ w.end) × AreOnward w.end ws

-- breaks in rising order, past a byte
abbrev pub AreBreaksPast : ℕ → List Break → Type 0
AreBreaksPast at [] = Unit {0}
AreBreaksPast at (b ∷ bs) = (at < b.at) × AreBreaksPast b.at bs

-- no word was passed twice, and those left are in rising order
pub record AreCounted (text : List ℕ) (place : Place) : Type 0 where
  pub few : place.words + held place.word ≤ place.from
  pub onward : AreOnward 0 (words_ahead text place)

-- the words that end at the byte `at` or before it were passed
pub record IsPassed (text : List ℕ) (at : ℕ) (old new : Place) : Type 0 where
  pub same_breaks : new.breaks ≡ old.breaks
  pub counted : AreCounted text old → AreCounted text new
  pub cuts : AreCounted text old → (b : Break) (bs : List Break) → at ≤ b.at → AreBreaksPast b.at bs
      → cuts_among new.words (words_ahead text new) (b ∷ bs) ≡ cuts_among old.words (words_ahead text old) (b ∷ bs)

-- these cuts are left from a place on
pub record IsAhead (cell : ℕ → Cell) (kinds : List ℕ) (pairs : Neighbours) (text : List ℕ) (place : Place)
    (cuts : List Cut) : Type 0 where
  pub breaks : List Break
  pub comes : Comes cell kinds pairs text place.breaks breaks
  pub counted : AreCounted text place
  pub rising : AreBreaksPast 0 breaks
  pub among : cuts ≡ cuts_among place.words (words_ahead text place) breaks

-- the words that were read: those in the block, and those after it
pub record AreRead (text : List ℕ) (block : WordBlock) : Type 0 where
  pub joined : words_on text block.from ≡ drop block.next (take block.count block.words) ++ words_on text block.rest
  pub within : block.from ≤ length text → block.rest ≤ length text

-- a word was read, or none is left
pub record IsLoaded (text : List ℕ) (old new : Place) : Type 0 where
  pub ahead : words_ahead text new ≡ words_ahead text old
  pub counted : old.words + held old.word ≤ old.from → new.words + held new.word ≤ new.from
  pub none : new.word.end ≡ 0 → words_ahead text new ≡ []

-- the first word from a byte on
pub record IsFirstWord (text : List ℕ) (from : ℕ) (word : Word) : Type 0 where
  pub joined : words_on text from ≡ word ∷ words_on text word.end
  pub behind : from ≤ word.start
  pub some : word.start < word.end
  pub within : word.end ≤ length text

-- the cuts at the front of a block are within a text of this size
abbrev pub StandWithin : ℕ → ℕ → List Cut → Type 0
StandWithin size count out = (k : ℕ) → k < count → (slice_index_or out k no_cut).at ≤ size

-- the cut in front of a place of a block, if that is past the place from which a search began, and the one at which it
-- began else; and the cut in front of a place that is not 0
abbrev pub last_in : List Cut → ℕ → Cut → ℕ → Cut
last_in out from first k = if from == k then first else slice_index_or out (k - 1) no_cut

abbrev pub early_in : List Cut → Option Cut → ℕ → Option Cut
early_in out early k = if k == 0 then early else Some (slice_index_or out (k - 1) no_cut)

-- the first breaks fill the front of a block, or are all, and the others are left from a state on
pub record AreNext (cell : ℕ → Cell) (kinds : List ℕ) (pairs : Neighbours) (text : List ℕ) (breaks : List Break)
    (room : ℕ) (block : List RawBreak) (next : NextBreaks) : Type 0 where
  pub counted : next.count ≡ min room (length breaks)
  pub shown : map raw_of (take next.count breaks) ≡ take next.count block
  pub onward : Comes cell kinds pairs text next.state (drop next.count breaks)

-- the cuts at the front of a block were found, and the others are among these breaks
pub record AreAmong (text : List ℕ) (cuts : List Cut) (breaks : List Break) (filled : Filled) (words : WordBlock)
    (out : List Cut) : Type 0 where
  pub read : AreRead text words
  pub counted : AreCounted text filled.place
  pub rising : AreBreaksPast 0 breaks
  pub joined : cuts ≡ take filled.count out ++ cuts_among filled.place.words (words_ahead text filled.place) breaks

-- the first cuts fill the front of a block, or are all, and the others are left from a place on
pub record AreFirst (cell : ℕ → Cell) (kinds : List ℕ) (pairs : Neighbours) (text : List ℕ) (cuts : List Cut) (room : ℕ)
    (out : List Cut) (filled : Filled) : Type 0 where
  pub rest : List Cut
  pub joined : cuts ≡ take filled.count out ++ rest
  pub onward : IsAhead cell kinds pairs text filled.place rest
  pub all : filled.count < room → rest ≡ []

-- this is one of the cuts
pub record IsCutOf (cuts : List Cut) (c : Cut) : Type 0 where
  pub some : 0 < c.at
  pub joined : cuts_past (c.at - 1) cuts ≡ c ∷ cuts_past c.at cuts

-- one of the cuts is at this byte, after so many words
abbrev pub IsStanding : List Cut → ℕ → ℕ → Type 0
IsStanding cuts at words = (c : Cut) × (c.at ≡ at) × (c.words ≡ words) × IsCutOf cuts c

-- the cuts past a byte are left from the place, and it counts the words before the cut there
pub record IsMark (cell : ℕ → Cell) (kinds : List ℕ) (pairs : Neighbours) (text : List ℕ) (cuts : List Cut)
    (mark : Mark) : Type 0 where
  pub ahead : IsAhead cell kinds pairs text mark.place (cuts_past mark.at cuts)
  pub counted : (c : Cut) → c.at ≡ mark.at → IsCutOf cuts c → mark.place.words ≡ c.words

-- the cut at this index of a block is its first one past a byte
pub record IsFirstPast (block : CutBlock) (at k : ℕ) : Type 0 where
  pub few : k < block.count
  pub past : at < (slice_index_or block.cuts k no_cut).at
  pub first : (k ≡ 0) ⊎ ((slice_index_or block.cuts (k - 1) no_cut).at ≤ at)

-- the first cuts past a byte are in the block
pub record IsBlock (cell : ℕ → Cell) (kinds : List ℕ) (pairs : Neighbours) (text : List ℕ) (cuts : List Cut)
    (block : CutBlock) : Type 0 where
  pub before : IsMark cell kinds pairs text cuts block.before
  pub rest : List Cut
  pub joined : cuts_past block.before.at cuts ≡ take block.count block.cuts ++ rest
  pub all : block.count < block.room → rest ≡ []
  pub behind : block.count ≡ block.room → IsMark cell kinds pairs text cuts block.behind

-- with any table, the cuts of a window are within the text
pub record IsKept (text : List ℕ) (window : Window) : Type 0 where
  pub older : StandWithin (length text) window.older.count window.older.cuts
  pub newer : StandWithin (length text) window.newer.count window.newer.cuts

-- a window has cuts of a text, and a place from which it can read them again
pub record AreKept (cell : ℕ → Cell) (kinds : List ℕ) (pairs : Neighbours) (text : List ℕ) (cuts : List Cut)
    (window : Window) : Type 0 where
  pub older : IsBlock cell kinds pairs text cuts window.older
  pub newer : IsBlock cell kinds pairs text cuts window.newer
  pub home : IsMark cell kinds pairs text cuts window.home
  pub words : AreRead text window.words
  pub within : IsKept text window

-- what a window has of the cuts of a text, and the place from which it can read them again, it keeps
pub record KeepsCuts (kinds : List ℕ) (pairs : Neighbours) (text : List ℕ) (old new : Window) : Type 0 where
  pub kept : IsKept text old → IsKept text new
  pub home : new.home ≡ old.home
  pub are : (cell : ℕ → Cell) (cuts : List Cut) → AreCutsPast 0 cuts → AreKept cell kinds pairs text cuts old
      → AreKept cell kinds pairs text cuts new

-- the window has the cuts of a text from the start of a chunk on
pub record Knows (cell : ℕ → Cell) (kinds : List ℕ) (pairs : Neighbours) (text : List ℕ) (cuts : List Cut)
    (window : Window) (here : Here) : Type 0 where
  pub rising : AreCutsPast 0 cuts
  pub kept : AreKept cell kinds pairs text cuts window
  pub home : window.home.at ≤ here.start
  pub told : here.start ≤ here.told

-- a state is at a cut of a text with these cuts, or at its start
pub record IsAt (cell : ℕ → Cell) (kinds : List ℕ) (pairs : Neighbours) (text : List ℕ) (cuts : List Cut)
    (state : ChunkState) : Type 0 where
  pub ahead : IsAhead cell kinds pairs text state.place (cuts_past state.start cuts)
  pub counted : (c : Cut) → c.at ≡ state.start → IsCutOf cuts c → state.place.words ≡ c.words
  pub rising : AreCutsPast 0 cuts
  pub told : state.start ≤ state.told

abbrev pub here_of : ChunkState → Here
here_of state = record { start = state.start; words = state.place.words; told = state.told }

-- the chunk from here on ends at this cut
pub record IsEnd (limits : Limits) (cuts : List Cut) (here : Here) (end : Cut) : Type 0 where
  pub first : Cut
  pub joined : cuts_past here.told cuts ≡ first ∷ cuts_past first.at cuts
  pub is : end ≡ end_of limits here first (cuts_past first.at cuts)

-- the chunk from here on, and where the next one starts
pub record IsGiven (limits : Limits) (cuts : List Cut) (here : Here) (given : Given) : Type 0 where
  pub end : Cut
  pub ends : IsEnd limits cuts here end
  pub chunk : given.chunk ≡ chunk_to limits here end
  pub next : given.next ≡ after limits cuts here end
  pub stands : IsStanding cuts given.next.start given.next.words

-- the state at the start of a text
abbrev pub state_start : Profile → ChunkState
state_start profile = record {
  place = record { breaks = start_in profile; from = 0; word = record { start = 0; end = 0 }; words = 0 };
  start = 0;
  told = 0;
}

-- these chunks are left from a state on
pub record ChunksCome (cell : ℕ → Cell) (kinds : List ℕ) (pairs : Neighbours) (text : List ℕ) (limits : Limits)
    (state : ChunkState) (to_come : List Chunk) : Type 0 where
  pub in_range : are_limits limits ≡ true
  pub cuts : List Cut
  pub stands : IsAt cell kinds pairs text cuts state
  pub chunks : AreChunks limits cuts (here_of state) to_come

-- the chunks that a call returned, and the state from which the others are left
pub record AreGiven (cell : ℕ → Cell) (kinds : List ℕ) (pairs : Neighbours) (text : List ℕ) (limits : Limits)
    (cuts : List Cut) (to_come : List Chunk) (count : ℕ) (out : List Chunk) (window : Window)
    (here : Here) : Type 0 where
  pub few : count ≤ length to_come
  pub front : take count out ≡ take count to_come
  pub rest : AreChunks limits cuts here (drop count to_come)
  pub knows : Knows cell kinds pairs text cuts window here
  pub stands : 0 < count → IsStanding cuts here.start here.words

-- a cut stands past one byte, at another or before it; the last that fits, and that at which the chunk may end early,
-- do
abbrev pub StandsIn : ℕ → ℕ → Cut → Type 0
StandsIn from to c = (from < c.at) × (c.at ≤ to)

abbrev pub ArePlaced : ℕ → ℕ → Fitting → Type 0
ArePlaced from to f = StandsIn from to f.last × ((c : Cut) → f.early ≡ Some c → StandsIn from to c)

-- the cuts ahead fit up to the last one, and a chunk may end early at that which was found
pub record IsEnding (limits : Limits) (cuts : List Cut) (here : Here) (last : Cut) (early : Option Cut) : Type 0 where
  pub first : Cut
  pub joined : cuts_past here.told cuts ≡ first ∷ cuts_past first.at cuts
  pub fits_first : fits limits here first ≡ true
  pub all : list_all (fits limits here) (cuts_past first.at cuts) ≡ list_all (fits limits here) (cuts_past last.at cuts)
  pub whole : last_of first (cuts_past first.at cuts) ≡ last_of last (cuts_past last.at cuts)
  pub full : last_of first (fitting limits here (cuts_past first.at cuts))
      ≡ last_of last (fitting limits here (cuts_past last.at cuts))
  pub early_end : last_early limits here None (first ∷ fitting limits here (cuts_past first.at cuts))
      ≡ last_early limits here early (fitting limits here (cuts_past last.at cuts))
  pub cut : IsCutOf cuts last
  pub early_cut : (c : Cut) → early ≡ Some c → IsCutOf cuts c
