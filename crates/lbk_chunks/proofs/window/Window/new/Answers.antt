use Rattle.lbk_chunks.proofs.window.Window.new.Goals as goal

pub returns-clause-are : goal.returns-clause-are
returns-clause-are g c = λ cell cuts rising is.
    let block = c.read.ensures.block cell cuts rising (c.none-words.ensures c.args.text.now) is in
    record { older = block.0; newer = block.0; home = is; words = block.1; within = record { older = c.read.ensures.within; newer = c.read.ensures.within } }
