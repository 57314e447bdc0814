use Rattle.std.proofs.Common.{[], arith}
use Rattle.lbk_bytes.proofs.MarkLemmas.{Marked-alone}
use Rattle.lbk_bytes.proofs.marking.mark_emoji.Goals as goal

pub returns-then-here-past : goal.returns-then-here-past
returns-then-here-past g c =
    let a = c.args in
    let past = c.emoji-past in
    record {
      within = (past.ensures.within.1, omega arith, past.ensures.within.2, past.ensures.near (omega arith));
      none = past.ensures.in_order 0;
      marked = λ cell all flat.
          Marked-alone a.profile cell a.text.now all a.from a.stop a.here past.result a.words.now past.new.out
          (past.ensures.reached a.profile cell [] all a.stop c.rows_of.ensures flat.kinds (omega arith));
    }

pub returns : goal.returns
returns g c =
    let a = c.args in
    let past = c.emoji-past in
    let ones = c.take_ones.ensures in
    record {
      within = (ones.within.1, omega (arith, past.ensures.onward.0, ones.onward.0), ones.within.2, ones.near);
      none = λ none. ones.in_order 0 (past.ensures.in_order 0 none);
      marked = λ cell all flat m.
          ones.reached cell all a.stop flat (omega arith)
          (Marked-alone a.profile cell a.text.now all a.from a.stop a.here past.result a.words.now past.new.out
          (past.ensures.reached a.profile cell [] all a.stop c.rows_of.ensures flat.kinds (omega arith)) m);
    }
