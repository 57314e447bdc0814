use Rattle.std.specs.Str.Iter.{chars_rest}
use Rattle.lbk_values.specs.declared.profile.Profile.TheVariants.{Second}
use Rattle.lbk_rules.specs.StepperFits.{StepperFits}
use Rattle.lbk_cmd.proofs.Deciding.{Decides}
use Rattle.lbk_cmd.proofs.shown.decide_late.Given as goal

abbrev pub invariant-loop-c : goal.invariant-loop-c
invariant-loop-c g l =
    Decides (StepperFits g.C.CellSource.cell_of l.stepper Second (g.C.CellSource.cell_of l.cells)) Second (g.C.CellSource.cell_of l.cells) l.end l.text l.verdicts.items (chars_rest l.c-iterator)
