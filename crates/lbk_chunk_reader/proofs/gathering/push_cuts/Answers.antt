use Rattle.std.proofs.Common.{◌+◌, ◌<◌, ◌^◌, ◌∙◌, arith, length}
use Rattle.lbk_chunk_reader.specs.PassageWords.{words_in_pieces}
use Rattle.lbk_chunk_reader.proofs.WordLemmas.{no-items, pushed-all, pushed-none, pushed-on, pushed-over}
use Rattle.lbk_chunk_reader.proofs.gathering.push_cuts.Goals as goal

pub loop-segment-init : goal.loop-segment-init
loop-segment-init c = record {
  pushed = λ is. pushed-none c.args.start c.args.words c.args.segments.now c.args.pieces.now c.args.cuts.now.items is;
  grows = omega arith;
}

pub loop-segment-preserved-in_ok-push : goal.loop-segment-preserved-in_ok-push
loop-segment-preserved-in_ok-push c = record {
  pushed = λ is. pushed-on c.args.start c.args.words _ _ _ _ _ _ _ _ _ _ c.in-Some.segment.now
      c.in-Some.ensures.cases.0 is (c.loop-segment.invariant.pushed is) c.pass_words-here.ensures.passed
      c.pass_words-here.ensures.past c.is_within.result c.is_within.ensures c.push.new.self.items
      c.in_ok-push.ensures.items c.if-not-is_within.true;
  grows = omega (arith, c.loop-segment.invariant.grows, c.in_ok-push.ensures.len);
}

pub loop-segment-preserved : goal.loop-segment-preserved
loop-segment-preserved c = record {
  pushed = λ is. pushed-over c.args.start c.args.words _ _ _ _ _ _ _ _ _ _ c.in-Some.segment.now
      c.in-Some.ensures.cases.0 is (c.loop-segment.invariant.pushed is) c.pass_words-here.ensures.passed
      c.pass_words-here.ensures.past c.is_within.result c.is_within.ensures c.if-not-is_within.false;
  grows = c.loop-segment.invariant.grows;
}

pub returns-clause-cuts : goal.returns-clause-cuts
returns-clause-cuts c = λ is.
    let l = c.loop-segment in
    pushed-all c.args.start c.args.words c.args.segments.now c.args.pieces.now c.args.cuts.now.items l.cuts.items
    l.here.count l.here.left.now l.left.now
    (no-items l.left.now c.in_default.ensures.cases) (l.invariant.pushed is)

pub returns-clause-words : goal.returns-clause-words
returns-clause-words c = λ is.
    let l = c.loop-segment in
    let p = l.invariant.pushed is in
    let few : l.here.count + length (words_in_pieces c.args.start l.here.left.now) < 2 ^ 64 =
    omega (arith, p.same, is.few) in
    c.words_behind.ensures c.args.start few ∙ p.same
