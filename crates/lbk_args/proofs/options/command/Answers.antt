use Rattle.lbk_args.proofs.options.command.Goals as goal

pub returns : goal.returns
returns c =
    c.with_command.ensures _ _ (c.with_command-command-4.ensures _ _ (c.with_command-command-3.ensures _ _
    (c.with_command-command-2.ensures _ _ (c.with_command-command.ensures _ _ c.bare.ensures c.mark.ensures)
    c.show.ensures) c.segment.ensures)
    c.chunk.ensures) c.replay.ensures
