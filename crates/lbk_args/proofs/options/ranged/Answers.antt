use Rattle.lbk_args.proofs.options.ranged.Goals as goal

pub returns : goal.returns
returns c app rule limit made =
    c.with_shared.ensures _ (c.with_option.ensures _ _ c.byte_option-2.ensures
    (c.with_option-command-2.ensures _ _ c.byte_option.ensures
    (c.with_option-command.ensures _ _ limit made)))
