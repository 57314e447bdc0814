use Rattle.std.proofs.Common.{arith}
use Rattle.lbk_chunks.proofs.word_block.WordBlock.read.Goals as goal

pub invariant_of-self-clause-rising : goal.invariant_of-self-clause-rising
invariant_of-self-clause-rising c = c.fill_front-filled.ensures.rising

pub invariant_of-self-clause-size : goal.invariant_of-self-clause-size
invariant_of-self-clause-size c = c.fill_front-filled.ensures.size

pub returns-clause-read : goal.returns-clause-read
returns-clause-read c = record { joined = c.fill_front-filled.ensures.joined; within = c.fill_front-filled.ensures.within }

pub returns-clause-none : goal.returns-clause-none
returns-clause-none c = λ none. c.fill_front-filled.ensures.none c.args.self.now.some (omega (arith, none))
