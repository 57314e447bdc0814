use Rattle.std.proofs.Common.{◌≡◌, ◌-◌, ◌≤◌, length, drop, take}
use Rattle.lbk_passage.specs.Found.{IsKept, to_give}
use Rattle.lbk_passage.proofs.kept.Kept.fill.Given as goal

abbrev pub invariant-loop-count : goal.invariant-loop-count
invariant-loop-count g l =
    let cell = g.C.CellSource.cell_of l.cells in
    let whole = to_give l.profile cell l.text l.fn.self in
    record {
      kept : IsKept l.profile cell l.text l.self;
      long : length l.block ≡ length l.fn.block;
      within : l.count ≤ length l.block;
      front : take l.count l.block ≡ take l.count whole;
      rest : to_give l.profile cell l.text l.self ≡ drop l.count whole;
    }

abbrev pub decreases-loop-count : goal.decreases-loop-count
decreases-loop-count g l = length l.fn.block - l.count
