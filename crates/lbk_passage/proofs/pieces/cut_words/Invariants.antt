use Rattle.std.proofs.Common.{◌≡◌, ◌*◌, ◌-◌, ◌≤◌, ◌++◌, drop, length, max, vec_capacity}
use Rattle.std.specs.Str.{IsUtf8}
use Rattle.lbk_passage.specs.Pieces.{letter_by, pieces_of, pieces_on}
use Rattle.lbk_words.specs.Near.{AreMet}
use Rattle.lbk_passage.specs.Front.{items_of}
use Rattle.lbk_passage.proofs.pieces.cut_words.Given as goal

abbrev pub invariant-loop-start : goal.invariant-loop-start
invariant-loop-start g l =
    let cell = g.C.CellSource.cell_of l.known.cells.now in
    record {
      cut : items_of l.pieces ++ pieces_on cell l.text l.start ≡ pieces_of cell l.text;
      room : vec_capacity l.fn.pieces.items ≤ vec_capacity l.pieces.items;
      most : vec_capacity l.pieces.items ≤ max (vec_capacity l.fn.pieces.items) (2 * l.pieces.count);
      within : l.start ≤ length l.text;
      utf8 : IsUtf8 (drop l.start l.text);
      met : AreMet (letter_by cell) l.near;
    }

abbrev pub decreases-loop-start : goal.decreases-loop-start
decreases-loop-start g l = length l.text - l.start
