use Rattle.lbk_args.proofs.options.limited.Goals as goal

pub returns : goal.returns
returns c rule limit = c.ranged.ensures _ rule limit c.with_files.ensures
