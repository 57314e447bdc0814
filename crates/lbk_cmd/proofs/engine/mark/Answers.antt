use Rattle.lbk_cmd.proofs.engine.mark.Goals as goal

pub returns : goal.returns
returns g c = c.mark_with.ensures
