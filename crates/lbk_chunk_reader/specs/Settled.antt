-- The chunks that the first cuts of a text settle, whatever cuts follow them.
use Rattle.std.specs.Prelude.{◌≡◌, ◌⊎◌, ◌<◌, ◌≤◌, Bool, true, false, List, [], ◌∷◌, ◌++◌, length}
use Rattle.std.specs.List.{list_all}
use Rattle.lbk_chunks.specs.declared.chunk.Chunk.{Chunk}
use Rattle.lbk_chunks.specs.declared.chunk.Limits.{Limits}
use Rattle.lbk_chunks.specs.declared.cut.Cut.{Cut}
use Rattle.lbk_chunks.specs.declared.chunk.Here.{Here}
use Rattle.lbk_chunks.specs.Chunks.{AreChunks, cuts_past, end_of, fits, text_start}
use Rattle.lbk_chunks.specs.Cuts.{AreCutsPast}
use Rattle.lbk_chunk_reader.specs.Reader.{View}

-- none of some cuts is past the end of the chunk from here on, given the cuts ahead of it
abbrev pub EndsLast : Limits → Here → List Cut → List Cut → Type 0
EndsLast l here cuts [] = Unit {0}
EndsLast l here cuts (first ∷ more) = cuts_past (end_of l here first more).at cuts ≡ []

-- these cuts settle no chunk from here on: all cuts ahead fit, or none is past its end
abbrev pub IsOpen : Limits → Here → List Cut → Type 0
IsOpen l here cuts = (list_all (fits l here) (cuts_past here.told cuts) ≡ true)
    ⊎ EndsLast l here cuts (cuts_past here.told cuts)

-- so do the cuts that are held
abbrev pub IsUnsettled : View → Type 0
IsUnsettled v = IsOpen v.limits v.here v.cuts

-- with these cuts the chunks from one start on are these, and then those from another start on, with these cuts left
pub record GoOn (l : Limits) (here : Here) (cuts : List Cut) (chunks : List Chunk) (next : Here) (left : List Cut) :
    Type 0 where
  pub left_are : left ≡ cuts_past next.start cuts
  pub rising : AreCutsPast next.start left
  pub forward : here.start ≤ next.start
  pub told : here.start ≤ here.told → next.start ≤ next.told
  pub come : (later : List Chunk) → here.start ≤ here.told → AreChunks l left next later
      → AreChunks l cuts here (chunks ++ later)

-- these cuts settle these chunks from one start up to another, whatever cuts follow, unless there are no others
pub record Settle (l : Limits) (is_whole : Bool) (here : Here) (cuts : List Cut) (chunks : List Chunk) (next : Here)
    (left : List Cut) : Type 0 where
  pub go_on : (more : List Cut) → (is_whole ≡ true → more ≡ []) → AreCutsPast here.start (cuts ++ more)
      → GoOn l here (cuts ++ more) chunks next (left ++ more)
  pub known : (is_whole ≡ true) ⊎ (((chunks ≡ []) × (next ≡ here)) ⊎ (0 < length (cuts_past next.told cuts)))

-- and these are all of them: of a text that goes on, and of one that has no other cuts
abbrev pub SettleAll : Limits → Bool → Here → List Cut → List Chunk → Type 0
SettleAll l true here cuts chunks = AreChunks l cuts here chunks
SettleAll l false here cuts chunks = (next : Here) × (left : List Cut) × Settle l false here cuts chunks next left
    × IsOpen l next left

-- the chunks that the first cuts of a text settle
abbrev pub AreSettled : Limits → List Cut → List Chunk → Type 0
AreSettled l cuts chunks = SettleAll l false text_start cuts chunks
