use Rattle.lbk_cmd.proofs.engine.mark_with.Goals as goal

pub returns : goal.returns
returns g c = c.write_lines.ensures
