use Rattle.std.proofs.Common.{map, take}
use Rattle.lbk_rules.specs.StepperFits.{StepperFits}
use Rattle.lbk_notation.proofs.OutcomeLemmas.{Knows}
use Rattle.lbk_notation.proofs.outcome.replay_line.Given as goal

-- the stepper has taken the scalars so far, and the least difference of the positions that it answered is kept
abbrev pub invariant-loop-position : goal.invariant-loop-position
invariant-loop-position g l = record {
  fits : StepperFits g.C.CellSource.cell_of l.stepper l.fn.profile (g.C.CellSource.cell_of l.cells) (take l.position l.line.scalars);
  knows : Knows (g.C.CellSource.cell_of l.cells) l.fn.form l.fn.profile l.line (map (g.C.CellSource.cell_of l.cells) (take l.position l.line.scalars)) l.outcome;
}
