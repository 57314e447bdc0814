use Rattle.std.proofs.Common.{◌+◌, sym, subst, arith}
use Rattle.lbk_words.specs.Places.{IsReadAt}
use Rattle.lbk_words.proofs.ReadLemmas.{one-read}
use Rattle.lbk_words.proofs.scalars.one_at.Goals as goal

pub returns-clause-reads : goal.returns-clause-reads
returns-clause-reads c =
    subst (λ code. IsReadAt c.args.text.now c.args.at code (c.args.at + 1)) (sym c.from.ensures)
    (one-read c.args.text.now c.args.at c.requires (omega (arith, c.if-byte-ge128.false)))
