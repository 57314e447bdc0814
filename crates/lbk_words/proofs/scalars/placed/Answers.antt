use Rattle.std.proofs.Common.{arith}
use Rattle.lbk_words.proofs.ReadLemmas.{coded-read}
use Rattle.lbk_words.proofs.scalars.placed.Goals as goal

pub overflow_add-result : goal.overflow_add-result
overflow_add-result c =
    let read = coded-read c.args.text.now c.args.at c.args.scalar.code c.args.scalar.size c.requires.inside c.requires.stands in
    omega (arith, read.within)

pub returns-clause-reads : goal.returns-clause-reads
returns-clause-reads c = coded-read c.args.text.now c.args.at c.args.scalar.code c.args.scalar.size c.requires.inside c.requires.stands
