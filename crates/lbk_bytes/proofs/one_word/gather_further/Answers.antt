use Rattle.std.proofs.Common.{[], arith}
use Rattle.lbk_bytes.proofs.GatherLemmas.{Gathered-alone}
use Rattle.lbk_bytes.proofs.one_word.gather_further.Goals as goal

pub returns-then-stop-common : goal.returns-then-stop-common
returns-then-stop-common g c =
    let a = c.args in
    let common = c.emoji_and_scalars-common in
    record {
      within = (common.ensures.within.1, omega arith, common.ensures.within.2, common.ensures.near (omega arith));
      none = common.ensures.in_order 0;
      gathered = λ cell all flat.
          Gathered-alone a.profile cell a.text.now all a.target.from a.stop a.target.word a.here common.result a.kinds.now common.new.out
          (common.ensures.reached a.profile cell [] all a.stop c.rows_of-steps.ensures flat.kinds (omega arith));
    }

pub returns-then-common-past : goal.returns-then-common-past
returns-then-common-past g c =
    let a = c.args in
    let common = c.emoji_and_scalars-common in
    let past = c.pieces-past in
    record {
      within = (past.ensures.within.1, omega (arith, common.ensures.onward.0), past.ensures.within.2, past.ensures.near (omega arith));
      none = λ none. past.ensures.in_order 0 (common.ensures.in_order 0 none);
      gathered = λ cell all flat.
          Gathered-alone a.profile cell a.text.now all a.target.from a.stop a.target.word a.here past.result a.kinds.now past.new.out
          (λ m. past.ensures.reached a.profile cell [] all a.stop c.rows_of-steps.ensures flat.kinds (omega arith)
          (common.ensures.reached a.profile cell [] all a.stop c.rows_of-steps.ensures flat.kinds (omega arith) m));
    }

pub returns : goal.returns
returns g c =
    let a = c.args in
    let common = c.emoji_and_scalars-common in
    let past = c.pieces-past in
    let ones = c.take_ones.ensures in
    record {
      within = (ones.within.1, omega (arith, common.ensures.onward.0, past.ensures.onward.0, ones.onward.0), ones.within.2, ones.near);
      none = λ none. ones.in_order 0 (past.ensures.in_order 0 (common.ensures.in_order 0 none));
      gathered = λ cell all flat m.
          ones.reached cell all a.stop flat (omega arith)
          (Gathered-alone a.profile cell a.text.now all a.target.from a.stop a.target.word a.here past.result a.kinds.now past.new.out
          (λ m. past.ensures.reached a.profile cell [] all a.stop c.rows_of-steps.ensures flat.kinds (omega arith)
          (common.ensures.reached a.profile cell [] all a.stop c.rows_of-steps.ensures flat.kinds (omega arith) m)) m);
    }
