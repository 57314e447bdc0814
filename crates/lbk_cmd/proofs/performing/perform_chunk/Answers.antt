use Rattle.lbk_cmd.proofs.performing.perform_chunk.Goals as goal

pub returns : goal.returns
returns g c = rw (← c.limits.ensures) (c.chunk.result, c.chunk.ensures, c.of_text.ensures)
