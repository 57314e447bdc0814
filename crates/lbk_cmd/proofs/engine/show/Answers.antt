use Rattle.lbk_cmd.proofs.engine.show.Goals as goal

pub returns : goal.returns
returns g c = c.write_lines.ensures
