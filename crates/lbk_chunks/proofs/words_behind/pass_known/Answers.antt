use Rattle.std.proofs.Common.{ap, arith, refl, subst, sym, ◌<◌}
use Rattle.lbk_words.specs.declared.word.Word.{Word}
use Rattle.lbk_chunks.specs.Coming.{IsFirstWord}
use Rattle.lbk_chunks.proofs.WordLemmas.{load, load-none, pass, pass-more, with-breaks}
use Rattle.lbk_chunks.proofs.words_behind.pass_known.Goals as goal

pub loop-here-init : goal.loop-here-init
loop-here-init c = record {
  read = λ text read. read;
  passed = λ text read. load-none text c.args.at c.args.place;
}

pub loop-here-preserved : goal.loop-here-preserved
loop-here-preserved c =
    let i = c.loop-here.invariant in
    let known = c.in-Some.ensures in
    let w = c.without_word in
    let l = c.with_word in
    let some : 0 < c.loop-here.here.word.end = omega (arith, c.loop-here-test.true) in
    record {
      read = λ text read. known.read text (i.read text read);
      passed = λ text read. (
          let same_from = w.ensures.same.1 in
          let first = subst (λ n. IsFirstWord text n c.in-Some.word) (sym same_from) (known.first text (i.read text read)) in
          let one = pass text c.args.at c.loop-here.here w.result some c.if-here-at.true w.ensures.same.0 w.ensures.same.1 w.ensures.same.2 w.ensures.one_more in
          with-breaks text c.args.at c.args.place l.result c.args.place.breaks
          (load text c.args.at c.args.place w.result l.result (pass-more text c.args.at c.args.place c.loop-here.here w.result (i.passed text read) one)
          l.ensures.same (record {
            ahead = l.ensures.ahead text first;
            counted = l.ensures.counted text first;
            none = λ none. absurd (let same = ap (λ (v : Word). v.end) l.ensures.some.0 in omega (arith, none, same, first.some));
          })) refl);
    }
