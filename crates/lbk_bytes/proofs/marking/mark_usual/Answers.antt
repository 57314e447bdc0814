use Rattle.std.proofs.Common.{[], drop, length-take-le, arith}
use Rattle.lbk_bytes.proofs.MarkLemmas.{Marked-by-both, Marked-by-front}
use Rattle.lbk_bytes.proofs.marking.mark_usual.Goals as goal

pub mark_blocks-there-requires : goal.mark_blocks-there-requires
mark_blocks-there-requires g c =
    let until = length-take-le c.args.stop c.args.text.now c.requires.3 in
    (c.requires.0, c.requires.1, omega (arith, until), omega (arith, until), (c.args.profile, c.rows_of-steps.ensures))

pub quick-past-requires-clause-steps : goal.quick-past-requires-clause-steps
quick-past-requires-clause-steps g c =
    let there = c.mark_blocks-there.ensures.within in
    let until = length-take-le c.args.stop c.args.text.now c.requires.3 in
    ((omega (arith, there.1), omega (arith, until)), there.0, omega (arith, there.2, until), omega (arith, until), (c.args.profile, c.rows_of-steps.ensures))

pub returns-then-there-stop : goal.returns-then-there-stop
returns-then-there-stop g c =
    let a = c.args in
    let blocks = c.mark_blocks-there in
    let until = length-take-le a.stop a.text.now c.requires.3 in
    record {
      within = (blocks.ensures.within.0, omega arith, omega arith, omega arith);
      none = blocks.ensures.none;
      marked = λ cell all flat.
          Marked-by-front a.profile cell a.text.now all a.from a.stop a.here blocks.result a.words.now blocks.new.words c.requires.3
          (blocks.ensures.marked a.profile cell (drop a.stop a.text.now) all c.rows_of-steps.ensures flat);
    }

pub returns-then-until-past : goal.returns-then-until-past
returns-then-until-past g c =
    let a = c.args in
    let blocks = c.mark_blocks-there in
    let past = c.quick-past in
    let until = length-take-le a.stop a.text.now c.requires.3 in
    record {
      within = (past.ensures.within.1, omega (arith, blocks.ensures.within.1), past.ensures.within.2, omega arith);
      none = λ none. past.ensures.in_order 0 (blocks.ensures.none none);
      marked = λ cell all flat.
          Marked-by-both a.profile cell a.text.now all a.from a.stop a.here blocks.result past.result a.words.now blocks.new.words past.new.out c.requires.3
          (blocks.ensures.marked a.profile cell (drop a.stop a.text.now) all c.rows_of-steps.ensures flat)
          (past.ensures.reached a.profile cell [] all a.stop c.rows_of-steps.ensures flat.kinds (omega (arith, until)));
    }

pub returns : goal.returns
returns g c =
    let a = c.args in
    let blocks = c.mark_blocks-there in
    let past = c.quick-past in
    let ones = c.take_ones.ensures in
    let until = length-take-le a.stop a.text.now c.requires.3 in
    record {
      within = (ones.within.1, omega (arith, blocks.ensures.within.1, past.ensures.onward.0, ones.onward.0), ones.within.2, ones.near);
      none = λ none. ones.in_order 0 (past.ensures.in_order 0 (blocks.ensures.none none));
      marked = λ cell all flat m.
          ones.reached cell all a.stop flat (omega arith)
          (Marked-by-both a.profile cell a.text.now all a.from a.stop a.here blocks.result past.result a.words.now blocks.new.words past.new.out c.requires.3
          (blocks.ensures.marked a.profile cell (drop a.stop a.text.now) all c.rows_of-steps.ensures flat)
          (past.ensures.reached a.profile cell [] all a.stop c.rows_of-steps.ensures flat.kinds (omega (arith, until))) m);
    }
