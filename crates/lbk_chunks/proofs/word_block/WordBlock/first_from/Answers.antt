use Rattle.std.proofs.Common.{◌≡◌, ap, sym, ◌∙◌, arith}
use Rattle.lbk_words.specs.Words.{words_on}
use Rattle.lbk_chunks.specs.declared.word_block.WordBlock.{WordBlock}
use Rattle.lbk_chunks.proofs.BehindLemmas.{none-left}
use Rattle.lbk_chunks.proofs.word_block.WordBlock.first_from.Goals as goal

pub returns-in-Some-clause-read : goal.returns-in-Some-clause-read
returns-in-Some-clause-read c = c.in-Some.ensures.read c.args.text.now

pub returns-then-text-self-clause-first : goal.returns-then-text-self-clause-first
returns-then-text-self-clause-first c = λ read.
    let text = c.args.text.now in
    let block = c.args.self.now in
    let none = c.in_default.ensures.none in
    let from = ap (λ (b : WordBlock). b.from) none.0 in
    let rest = ap (λ (b : WordBlock). b.rest) none.0 in
    let here : block.from ≡ c.args.from = omega (arith, from, c.if-self-from.true) in
    ap (words_on text) (sym here) ∙ none-left text block read (none.1 here) (omega (arith, rest, c.if-text-self.true))
