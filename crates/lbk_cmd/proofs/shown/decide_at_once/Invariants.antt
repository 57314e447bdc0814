use Rattle.std.specs.Str.Iter.{chars_rest}
use Rattle.lbk_rules.specs.FlatTable.{KnowsTaken}
use Rattle.lbk_rules.specs.Rows.{IsPlace}
use Rattle.lbk_values.specs.declared.profile.Profile.TheVariants.{First}
use Rattle.lbk_cmd.proofs.Deciding.{Decides}
use Rattle.lbk_cmd.proofs.shown.decide_at_once.Given as goal

abbrev pub invariant-loop-c : goal.invariant-loop-c
invariant-loop-c g l = record {
  place : IsPlace l.row;
  decides : Decides (KnowsTaken (g.C.CellSource.cell_of l.cells) l.row) First (g.C.CellSource.cell_of l.cells) l.end l.text l.verdicts.items (chars_rest l.c-iterator);
}
