use Rattle.std.proofs.Common.{inl, inr, refl}
use Rattle.lbk_rules.specs.CellPages.{page_cell}
use Rattle.lbk_cmd.proofs.command.show_samples.Goals as goal

pub returns-in-Ok : goal.returns-in-Ok
returns-in-Ok g c = inr (
  page_cell c.in-Ok.cells,
  c.in-Ok.ensures,
  (
    c.show.result,
    c.show.ensures,
    c.of_text.ensures,
  ),
)

pub returns-in-Err : goal.returns-in-Err
returns-in-Err g c = inl (c.in-Err.fault, c.in-Err.ensures, c.of_files.ensures, refl)
