use Rattle.lbk_args.proofs.options.with_files.Goals as goal

pub returns : goal.returns
returns c =
    c.with_option.ensures _ _ c.value_option-5.ensures
    (c.with_option-command-5.ensures _ _ c.value_option-4.ensures
    (c.with_option-command-4.ensures _ _ c.value_option-3.ensures
    (c.with_option-command-3.ensures _ _ c.value_option-2.ensures
    (c.with_option-command-2.ensures _ _ c.value_option.ensures
    (c.with_option-command.ensures _ _ c.value_option-version.ensures
    (record { is_app = c.new.ensures.app; local = c.new.ensures.local }))))))
