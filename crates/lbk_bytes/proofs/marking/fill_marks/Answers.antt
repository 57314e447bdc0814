use Rattle.std.proofs.Common.{set, subst, arith}
use Rattle.lbk_bytes.specs.Marking.{Marked}
use Rattle.lbk_bytes.proofs.MarkLemmas.{as-other, marks-further}
use Rattle.lbk_bytes.proofs.marking.fill_marks.Goals as goal

pub returns-then-words-eq1-clause-marked : goal.returns-then-words-eq1-clause-marked
returns-then-words-eq1-clause-marked g c = λ cell all flat start.
    let a = c.args in
    let found = c.one_word-found in
    let here = found.result.here in
    let word = found.result.word in
    subst (λ n. Marked a.profile cell a.text.now all a.start.at n here (set c.args.words.now 0 word)) c.stop_of-stop.ensures
    (subst (λ l. Marked a.profile cell a.text.now all a.start.at c.stop_of-stop.result here l)
    (as-other c.args.words.now word (omega arith))
    (found.ensures.marked cell all flat start))

pub loop-here-preserved : goal.loop-here-preserved
loop-here-preserved g c =
    let a = c.args in
    let l = c.loop-here in
    record {
      no_room = λ none. absurd (omega arith);
      marks = marks-further (g.K.KindSource.kinds_of a.table.now) (g.K.KindSource.pairs_of a.table.now) a.profile a.text.now c.stop_of-stop.result a.start l.here c.mark_further-here.result l.words c.mark_further-here.new.words
          l.invariant.marks c.mark_further-here.ensures;
    }
