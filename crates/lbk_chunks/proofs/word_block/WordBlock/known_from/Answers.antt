use Rattle.std.proofs.Common.{arith}
use Rattle.lbk_chunks.proofs.BehindLemmas.{ends-here, is-first, others-here}
use Rattle.lbk_chunks.proofs.word_block.WordBlock.known_from.Goals as goal

pub returns-clause-read : goal.returns-clause-read
returns-clause-read c = λ text read. record {
  joined = others-here c.args.self.now (omega arith) text read;
  within = λ _. ends-here c.args.self.now (omega arith) text read;
}

pub returns-clause-first : goal.returns-clause-first
returns-clause-first c = λ text read. is-first c.args.self.now (omega arith) text read c.args.from (omega arith)
