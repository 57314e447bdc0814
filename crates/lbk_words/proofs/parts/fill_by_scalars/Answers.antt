use Rattle.std.proofs.Common.{◌+◌, slice_index, arith}
use Rattle.unicode_segmentation.specs.Word.{significant, value_at}
use Rattle.lbk_words.specs.Words.{scalars_on}
use Rattle.lbk_words.proofs.ReadLemmas.{one-read}
use Rattle.lbk_words.proofs.parts.fill_by_scalars.Goals as goal

pub quick-init : goal.quick-init
quick-init g c =
    let next = c.next_step-next.ensures in
    let taken = c.taken-part in
    record {
      onward = omega (arith, taken.ensures.at, next.read.grows);
      fills = taken.ensures.fills c.args.text.now c.args.here c.args.out.now c.next_step-next.result.code c.scalars.invariant next.read next.step;
    }

pub quick-preserved-then-byte-lt128 : goal.quick-preserved-then-byte-lt128
quick-preserved-then-byte-lt128 g c =
    let text = c.args.text.now in
    let l = c.quick in
    let taken = c.taken-part-then-byte-lt128 in
    let byte = slice_index text l.part.at in
    record {
      onward = omega (arith, taken.ensures.at, l.invariant.onward);
      fills = taken.ensures.fills text c.args.here c.args.out.now byte l.invariant.fills (one-read text l.part.at (omega arith) c.if-byte-lt128.true)
          (c.step_of_byte-step.ensures c.if-step.false (value_at (significant (scalars_on text (l.part.at + 1))) 0));
    }

pub quick_at-requires-clause-enough : goal.quick_at-requires-clause-enough
quick_at-requires-clause-enough g c = λ fours. c.near_of-near.ensures.enough fours c.quick.part.at c.if-part-near.true

pub quick-preserved : goal.quick-preserved
quick-preserved g c =
    let text = c.args.text.now in
    let l = c.quick in
    let read = c.in-Some.ensures in
    let next = c.in-Some.next in
    let taken = c.taken-part-in-quick in
    record {
      onward = omega (arith, taken.ensures.at, read.grows, l.invariant.onward);
      fills = taken.ensures.fills text c.args.here c.args.out.now next.code l.invariant.fills read
          (c.step_unasked-step.ensures c.if-step-2.false (value_at (significant (scalars_on text next.end)) 0));
    }

pub scalars-preserved-then-step-2 : goal.scalars-preserved-then-step-2
scalars-preserved-then-step-2 g c =
    c.taken-part-then-step-2.ensures.fills c.args.text.now c.args.here c.args.out.now c.in-Some.next.code c.quick.invariant.fills c.in-Some.ensures c.step_of.ensures
