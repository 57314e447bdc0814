use Rattle.std.proofs.Common.{◌≡◌, ◌+◌, ◌<◌, ◌^◌, ◌++◌, All, length}
use Rattle.std.specs.Str.{chars}
use Rattle.lbk_passage.specs.Breaks.{breaks}
use Rattle.lbk_passage.specs.Cuts.{cut_at}
use Rattle.lbk_passage.specs.Found.{IsFound, left_after}
use Rattle.lbk_passage.specs.Front.{items_of}
use Rattle.lbk_passage.specs.Room.{Grows}
use Rattle.lbk_passage.proofs.segments.cut_alone.Given as goal

abbrev pub invariant-loop-start : goal.invariant-loop-start
invariant-loop-start g l =
    let cell = g.C.CellSource.cell_of l.cells in
    let all = breaks l.fn.profile cell (chars l.text) in
    let left = left_after l.fn.profile cell l.text l.here in
    record {
      found : IsFound l.fn.profile cell l.text l.here;
      cut : items_of l.segments ++ cut_at l.start left ≡ items_of l.fn.segments ++ cut_at 0 all;
      within : All (λ one. one.at < 2 ^ 32) left;
      count : l.segments.count + length left ≡ l.fn.segments.count + length all;
      grows : Grows l.fn.segments l.segments;
    }

abbrev pub decreases-loop-start : goal.decreases-loop-start
decreases-loop-start g l = length (left_after l.fn.profile (g.C.CellSource.cell_of l.cells) l.text l.here)
