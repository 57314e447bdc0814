use Rattle.lbk_args.proofs.options.replay.Goals as goal

pub returns : goal.returns
returns c =
    c.described.ensures _ (c.with_shared-command.ensures _
    (c.with_option-command.ensures _ _ c.flag_option-kinds.ensures c.with_files.ensures))
