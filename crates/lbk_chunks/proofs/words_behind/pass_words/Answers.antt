use Rattle.std.proofs.Common.{arith, ◌<◌, ◌∙◌}
use Rattle.lbk_chunks.proofs.WordLemmas.{left-less, load, load-none, pass, pass-more}
use Rattle.lbk_chunks.proofs.words_behind.pass_words.Goals as goal

pub loop-here-init : goal.loop-here-init
loop-here-init c =
    let l = c.loaded-here in
    record {
      same = l.ensures.same.0;
      read = λ read. (l.ensures.loaded read).0;
      passed = λ read. load c.args.text.now c.args.at c.args.place c.args.place l.result (load-none _ _ _) l.ensures.same (l.ensures.loaded read).1;
      none = λ read. (l.ensures.loaded read).1.none;
    }

pub loop-here-preserved : goal.loop-here-preserved
loop-here-preserved c =
    let text = c.args.text.now in
    let l = c.loaded-here-in-loop-here in
    let w = c.without_word in
    let i = c.loop-here.invariant in
    let some : 0 < c.loop-here.here.word.end = omega (arith, c.loop-here-test.true) in
    let one = pass text c.args.at c.loop-here.here w.result some c.if-here-at.true w.ensures.same.0 w.ensures.same.1 w.ensures.same.2 w.ensures.one_more in
    record {
      same = l.ensures.same.0 ∙ w.ensures.same.0 ∙ i.same;
      read = λ read. (l.ensures.loaded (i.read read)).0;
      passed = λ read. load text c.args.at c.args.place w.result l.result (pass-more text c.args.at c.args.place c.loop-here.here w.result (i.passed read) one)
          l.ensures.same (l.ensures.loaded (i.read read)).1;
      none = λ read. (l.ensures.loaded (i.read read)).1.none;
    }

pub loop-here-smaller : goal.loop-here-smaller
loop-here-smaller c =
    let l = c.loaded-here-in-loop-here in
    let w = c.without_word in
    left-less c.args.at w.result.from c.loop-here.here l.result (omega (arith, c.loop-here-test.true)) c.if-here-at.true w.ensures.same.1 (l.ensures.further w.ensures.same.2)
