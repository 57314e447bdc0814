use Rattle.std.proofs.Common.{inr, length, take, refl, arith}
use Rattle.std.proofs.lemmas.List.{length-take-le}
use Rattle.lbk_words.specs.Words.{words_on}
use Rattle.lbk_words.proofs.FillLemmas.{gives, words-end}
use Rattle.lbk_words.proofs.StepLemmas.{filled-none}
use Rattle.lbk_words.proofs.filling.fill.Goals as goal

pub loop-here-init : goal.loop-here-init
loop-here-init g c = record {
  within = inr refl;
  filled = filled-none c.args.text.now c.args.start c.args.out.now;
  past = λ _. refl;
  no_room = λ _. refl;
}

-- the text ends with the block not full
pub returns-else-here-text-clause-count : goal.returns-else-here-text-clause-count
returns-else-here-text-clause-count g c =
    let here = c.loop-here.here in
    let f = c.loop-here.invariant.filled in
    (gives (words_on c.args.text.now c.args.start) (take here.count c.loop-here.out) (words_on c.args.text.now here.at) here.count (length c.args.out.now)
    f.joined (length-take-le here.count c.loop-here.out f.room) (omega (arith, f.room, c.loop-here.auto.out)) (inr (words-end c.args.text.now here.at c.if-here-text.false))).counted
