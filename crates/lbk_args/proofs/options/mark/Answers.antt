use Rattle.lbk_args.proofs.options.mark.Goals as goal

pub returns : goal.returns
returns c =
    c.described.ensures _ (c.with_option-command.ensures _ _ c.value_option-sign.ensures
    (c.limited-command.ensures _ c.byte_limit_option.ensures))
