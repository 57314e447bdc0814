use Rattle.std.proofs.Common.{◌≡◌, ◌+◌, ◌%◌, ◌^◌, ◌<◌, get_or, set, below_more, get_or-set_other, get_or-set_same, length, drop, sym, ap, ◌∙◌, arith}
use Rattle.std.proofs.lemmas.List.{drop-drop, drop-set-lt, get_or-drop, length-set}
use Rattle.lbk_bytes.specs.declared.raw_break.RawBreak.{RawBreak}
use Rattle.lbk_bytes.specs.Order.{no_break}
use Rattle.lbk_streams.proofs.BreakLemmas.{AreBreaks-moved}
use Rattle.lbk_streams.proofs.PlaceLemmas.{AreInOrder-moved, given-moved, moved_raw}
use Rattle.lbk_streams.proofs.skimming.move_by.Goals as goal

pub loop-k-preserved : goal.loop-k-preserved
loop-k-preserved c =
    let l = c.loop-k in
    let k = l.k in
    let out = l.out in
    let start = c.args.out.now in
    let by = c.args.by in
    let none : RawBreak = record { at = 0; kind = 0; rule = 0 } in
    let old = get_or out k none in
    let new : RawBreak = record { at = (old.at + by) % 2 ^ 64; kind = old.kind; rule = old.rule } in
    let inside : k < length out = omega (arith, l.invariant.room) in
    let inside_start : k < length start = omega (arith, c.requires) in
    let same : old ≡ get_or start k none =
    ap (λ n. get_or out n none) (let e : k ≡ k + 0 = omega arith in e) ∙ sym (get_or-drop k out 0 none) ∙ ap (λ xs. get_or xs 0 none) l.invariant.rest
    ∙ get_or-drop k start 0 none ∙ ap (λ n. get_or start n none) (let e : k + 0 ≡ k = omega arith in e) in
    record {
      within = omega arith;
      room = omega (arith, length-set out k new, l.invariant.room);
      same_length = length-set out k new ∙ l.invariant.same_length;
      breaks = λ all. AreBreaks-moved out k new.at c.args.count inside (omega arith) (l.invariant.breaks all);
      each =
          below_more (λ n. get_or (set out k new) n no_break ≡ moved_raw by (get_or start n no_break)) k
          (λ j few. get_or-set_other out k j new no_break (λ even. omega arith) ∙ l.invariant.each j few)
          (get_or-set_same out k new no_break inside ∙ ap (moved_raw by) same);
      rest =
          drop-set-lt (k + 1) out k new (omega arith) ∙ sym (drop-drop 1 k out) ∙ ap (drop 1) l.invariant.rest ∙ drop-drop 1 k start;
    }

pub returns-clause-in_order : goal.returns-clause-in_order
returns-clause-in_order c = λ from to fits o.
    AreInOrder-moved c.args.out.now c.loop-k.out c.args.count c.args.by from to (λ k few. c.loop-k.invariant.each k (omega arith)) fits o

pub returns-clause-moved : goal.returns-clause-moved
returns-clause-moved c = λ from to fits o.
    let l = c.loop-k in
    given-moved c.args.out.now l.out c.args.count c.args.by (omega (arith, c.requires)) (omega (arith, l.invariant.same_length, c.requires))
    (λ k few. l.invariant.each k (omega arith)) (λ k few. let w = o.within k few in omega (arith, w.1))
