use Rattle.lbk_args.proofs.options.chunk.Goals as goal

pub returns : goal.returns
returns c = c.described.ensures _ (c.ranged-command.ensures _ _ c.byte_limit_option.ensures c.sized.ensures)
