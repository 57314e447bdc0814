use Rattle.std.proofs.Common.{rules, Err, refl, ap, ◌∙◌, inl, inr}
use Rattle.lbk_rules.specs.CellPages.{page_cell}
use Rattle.lbk_cmd.specs.Engines.{showing}
use Rattle.lbk_cmd.specs.Run.{by_passage}
use Rattle.lbk_cmd.proofs.InMemory.{untold_unwritten}
use Rattle.lbk_cmd.proofs.broken.shown_text.Goals as goal

pub returns-in-Err-Write : goal.returns-in-Err-Write
returns-in-Err-Write g c =
    inr (
      refl,
      untold_unwritten _ (by_passage (showing (page_cell c.args.cells.now) c.args.profile c.args.limit)) _ _ c.show.result (c.in-Err-Write.is ∙ ap Err c.in-Err-Write.field-0-is)
          c.show.ensures,
    )

pub returns : goal.returns
returns g c = inl (search rules)
