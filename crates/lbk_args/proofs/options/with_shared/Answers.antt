use Rattle.lbk_args.proofs.options.with_shared.Goals as goal

pub returns : goal.returns
returns c app made =
    c.with_option.ensures _ _ c.texts_operand.ensures
    (c.with_option-command-2.ensures _ _ c.flag_option.ensures
    (c.with_option-command.ensures _ _ c.number_option.ensures made))
