use Rattle.lbk_args.proofs.options.show.Goals as goal

pub returns : goal.returns
returns c = c.described.ensures _ (c.limited-command.ensures _ c.limit_option.ensures)
