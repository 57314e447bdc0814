use Rattle.std.proofs.Common.{◌≡◌, ◌+◌, inl, inr, length, drop, min, ap, subst, sym, ◌∙◌, arith}
use Rattle.std.proofs.lemmas.List.{length-take-le}
use Rattle.lbk_calls.proofs.UnitsComingLemmas.{bytes-begin}
use Rattle.lbk_c.specs.declared.segments.SegmentState.{SegmentState}
use Rattle.lbk_c.specs.Segments.{AreWithin, next_start, segments_between}
use Rattle.lbk_c.proofs.SegmentLemmas.{IsPut, IsStill, length-drop, put-given, same-length}
use Rattle.lbk_c.proofs.segments.lbk_segments.Goals as goal

put-last : (c : goal.Then-given-lt-BLOCK)
    → IsPut c.args.table.now.kinds c.args.table.now.pairs c.args.text.now c.args.state.now (record { breaks = c.give_breaks-given.new.state; start = c.put_segments-state.result })
    c.put_segments-state.new.out (c.loop-block.count + c.give_breaks-given.result)
put-last c =
    let g = c.give_breaks-given in
    let p = c.put_segments-state in
    let loop = c.loop-block in
    put-given c.args.table.now.kinds c.args.table.now.pairs c.args.text.now c.args.state.now loop.state g.new.state p.result loop.out p.new.out loop.block g.new.out _ loop.count g.result
    c.min-room.result loop.invariant.put loop.invariant.block c.min-room.ensures (omega (arith, g.auto.out)) g.ensures p.auto.out p.ensures.front p.ensures.next

pub loop-block-preserved : goal.loop-block-preserved
loop-block-preserved c =
    let g = c.give_breaks-given in
    let room = c.min-room.result in
    let block = c.loop-block.block in
    let size = length-take-le room block (omega (arith, c.min-room.ensures, c.loop-block.invariant.block)) in
    let p = c.put_segments-state in
    record {
      block = same-length g.new.out block room 64 (omega (arith, g.auto.out, size)) (omega (arith, c.min-room.ensures)) c.loop-block.invariant.block;
      put =
          put-given c.args.table.now.kinds c.args.table.now.pairs c.args.text.now c.args.state.now c.loop-block.state g.new.state p.result c.loop-block.out p.new.out block g.new.out _
          c.loop-block.count g.result room c.loop-block.invariant.put c.loop-block.invariant.block c.min-room.ensures (omega (arith, g.auto.out)) g.ensures
          p.auto.out p.ensures.front p.ensures.next;
    }

pub returns-then-given-lt-BLOCK-clause-begins : goal.returns-then-given-lt-BLOCK-clause-begins
returns-then-given-lt-BLOCK-clause-begins c = bytes-begin c.args.table.now.kinds c.args.table.now.pairs c.args.text.now c.args.state.now.breaks

pub returns-then-given-lt-BLOCK-clause-gives : goal.returns-then-given-lt-BLOCK-clause-gives
returns-then-given-lt-BLOCK-clause-gives c = λ cell to_come comes.
    let i = c.loop-block.invariant.put in
    let were = i.taken cell to_come comes in
    let count = c.loop-block.count in
    let g = c.give_breaks-given in
    let size = length-take-le c.min-room.result c.loop-block.block (omega (arith, c.min-room.ensures, c.loop-block.invariant.block)) in
    let given = (g.ensures.gives cell (drop count to_come) were.comes).count ∙ ap (λ n. min n (length (drop count to_come))) size in
    let left = length-drop count to_come were.few in
    let p = put-last c in
    let taken = p.taken cell to_come comes in
    record {
      count = omega (arith, given, left, c.min-room.ensures, c.if-given-lt-BLOCK.true, i.room, c.loop-block.auto.out);
      front = p.front ∙ ap (segments_between c.args.state.now.start) (sym taken.same);
      next = p.next ∙ ap (next_start c.args.state.now.start) (sym taken.same);
      rest = taken.comes;
    }

pub returns-then-given-lt-BLOCK-clause-sound : goal.returns-then-given-lt-BLOCK-clause-sound
returns-then-given-lt-BLOCK-clause-sound c = λ low within.
    let p = put-last c in
    let s = p.sound low within in
    (subst (AreWithin (length c.args.text.now)) (sym p.front) s.0, s.1, p.inside within)

pub returns-then-given-lt-BLOCK-clause-advances : goal.returns-then-given-lt-BLOCK-clause-advances
returns-then-given-lt-BLOCK-clause-advances c =
    let g = c.give_breaks-given in
    let out = c.put_segments-state.new.out in
    let p = put-last c in
    let still : IsStill c.args.state.now.breaks (length c.args.text.now) (length out)
    → (c.loop-block.count + g.result ≡ 0) × (g.new.state ≡ c.args.state.now.breaks) = λ stays.
    (let stood = p.still stays in (stood.0, ap (λ (s : SegmentState). s.breaks) stood.1)) in
    record {
      profile_same = p.profile_same;
      forward = p.forward;
      onward = p.onward;
      inside = p.inside;
      at_end = p.at_end;
      ended = λ ended. still (inr (inl ended));
      past = λ past. still (inr (inr (inl past)));
      unknown = λ unknown. still (inl unknown);
      no_room = λ none. still (inr (inr (inr (omega (arith, none, c.put_segments-state.auto.out, c.loop-block.auto.out)))));
    }
