-- The state of a segmenter.
use Rattle.std.specs.Prelude.{ℕ, ◌≡◌, ◌⊎◌, ◌*◌, ◌<◌, ◌≤◌, List, Option, Some, ◌++◌, length, max, string_capacity}
use Rattle.std.specs.Prelude.{vec_capacity}
use Rattle.lbk_rules.specs.declared.Cell.{Cell}
use Rattle.lbk_rules.specs.Marks.{Marked, text_of}
use Rattle.lbk_passage.specs.Next.{ComesFirst}
use Rattle.lbk_passage.specs.Pieces.{pieces_of}
use Rattle.lbk_passage.specs.Front.{items_of}
use Rattle.lbk_passage.specs.Segments.{segments_of}
use Rattle.lbk_passage.specs.declared.faults.PassageFault.{PassageFault}
use Rattle.lbk_passage.specs.declared.faults.PassageFault.TheVariants.{Memory}
use Rattle.lbk_passage.specs.declared.passage.Piece.{Piece}
use Rattle.lbk_passage.specs.declared.passage.Segment.{Segment}
use Rattle.lbk_passage.specs.declared.segmenter.Segmenter.{Segmenter}
use Rattle.lbk_passage.specs.State.{State, state_with}

-- what a segmenter shows, by the cells of its source
abbrev pub state_of : {C : Type 0} {bound : _} → (C → ℕ → Cell) → Segmenter C bound → State
state_of cell s = state_with (cell s.known.cells.now) s.profile s.paragraph

-- room is reserved for so many bytes of text, and for nothing else
pub record HasRoom {C : Type 0} {bound : _} (s : Segmenter C bound) (limit : ℕ) : Type 0 where
  pub text : string_capacity s.paragraph.text ≡ limit
  pub segments : vec_capacity s.segments.items ≡ 0
  pub pieces : vec_capacity s.pieces.items ≡ 0

-- the segments and the pieces in the lists, and for how many there is room: those that were found last, but segments that
-- were found ahead of their passage stand in a block of their own, and leave the list as it is
pub record Found : Type 0 where
  pub segments : List Segment
  pub room_for_segments : ℕ
  pub pieces : List Piece
  pub room_for_pieces : ℕ

-- what a segmenter has found
abbrev pub found_by : {C : Type 0} {bound : _} → Segmenter C bound → Found
found_by s = record {
  segments = items_of s.segments;
  room_for_segments = vec_capacity s.segments.items;
  pieces = items_of s.pieces;
  room_for_pieces = vec_capacity s.pieces.items;
}

-- the passage that is held has more segments, or more pieces, than there was room for
pub record LacksRoom (found : Found) (s : State) : Type 0 where
  pub marks : List Marked
  pub behind : List ℕ
  pub bytes : s.held ≡ text_of marks ++ behind
  pub comes : ComesFirst s marks behind
  pub full : (found.room_for_segments < length (segments_of marks))
      ⊎ (found.room_for_pieces < length (pieces_of s.cell (text_of marks)))

-- room that was there stays, and it grows to at most twice of what is found; a call is out of memory only where it
-- lacked some; `s` is the state after it
pub record KeepsRoom (old new : Found) (s : State) (fault : Option PassageFault) : Type 0 where
  pub for_segments : old.room_for_segments ≤ new.room_for_segments
  pub for_pieces : old.room_for_pieces ≤ new.room_for_pieces
  pub few_segments : new.room_for_segments ≤ max old.room_for_segments (2 * length new.segments)
  pub few_pieces : new.room_for_pieces ≤ max old.room_for_pieces (2 * length new.pieces)
  pub memory : fault ≡ Some Memory → LacksRoom old s
