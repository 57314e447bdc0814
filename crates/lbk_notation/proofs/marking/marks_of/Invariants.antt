use Rattle.std.proofs.Common.{◌≡◌, length, map, take}
use Rattle.lbk_rules.specs.StepperFits.{StepperFits}
use Rattle.lbk_rules.proofs.StepLemmas.{AllCome}
use Rattle.lbk_notation.proofs.Markings.{Come}
use Rattle.lbk_notation.proofs.marking.marks_of.Given as goal

-- the stepper has taken the scalars so far, and each position before them has its mark, but for one that is held
abbrev pub invariant-loop-scalar : goal.invariant-loop-scalar
invariant-loop-scalar g l = record {
  fits : StepperFits g.C.CellSource.cell_of l.stepper l.fn.profile (g.C.CellSource.cell_of l.source) (take l.scalar-index l.scalars);
  many : length l.marks.items ≡ l.scalar-index;
  come : AllCome l.fn.profile (map (g.C.CellSource.cell_of l.source) (take l.scalar-index l.scalars))
      (Come l.fn.profile (map (g.C.CellSource.cell_of l.source) l.scalars) l.marks.items);
}
