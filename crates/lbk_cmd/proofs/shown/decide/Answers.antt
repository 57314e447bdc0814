use Rattle.std.proofs.Common.{chars, length, ap, ◌∙◌}
use Rattle.std.proofs.lemmas.Result.{on_ok_weaker}
use Rattle.lbk_values.specs.declared.profile.Profile.TheVariants.{First, Second}
use Rattle.lbk_cmd.proofs.Deciding.{length-verdicts}
use Rattle.lbk_cmd.proofs.shown.decide.Goals as goal

pub returns-in-First-clause-many : goal.returns-in-First-clause-many
returns-in-First-clause-many g c =
    on_ok_weaker c.decide_at_once.result
    (λ is. ap length is ∙ length-verdicts First (g.C.CellSource.cell_of c.args.cells.now) c.args.end (chars c.args.text.now)) c.decide_at_once.ensures

pub returns-in-Second-clause-many : goal.returns-in-Second-clause-many
returns-in-Second-clause-many g c =
    on_ok_weaker c.decide_late.result
    (λ is. ap length is ∙ length-verdicts Second (g.C.CellSource.cell_of c.args.cells.now) c.args.end (chars c.args.text.now)) c.decide_late.ensures
