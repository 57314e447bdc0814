use Rattle.std.proofs.Common.{◌≡◌, ◌-◌, ◌≤◌, ◌++◌, List, length, min, inr, drop, take, sym, ap, subst, ◌∙◌, arith}
use Rattle.std.proofs.Math.Seq.{drop-drop, take-add}
use Rattle.std.proofs.lemmas.List.{length-drop, take_all}
use Rattle.lbk_rules.specs.declared.Break.{Break}
use Rattle.lbk_bytes.specs.declared.raw_break.RawBreak.{RawBreak}
use Rattle.lbk_bytes.specs.Order.{AreBreaks}
use Rattle.lbk_bytes.specs.Shown.{given_in}
use Rattle.lbk_passage.specs.Found.{to_give}
use Rattle.lbk_passage.proofs.KeptLemmas.{IsKept-skipped, fills, skipped-front, skipped-rest}
use Rattle.lbk_passage.proofs.kept.Kept.fill.Goals as goal

pub put_breaks-requires-clause-breaks : goal.put_breaks-requires-clause-breaks
put_breaks-requires-clause-breaks g c =
    let k = c.hold.new.self in
    let there : take (64 - k.next) (drop k.next k.block) ≡ drop k.next k.block = take_all (64 - k.next) (drop k.next k.block) (omega (arith, length-drop k.next k.block, c.hold.ensures.kept.size)) in
    subst (λ (l : List RawBreak). AreBreaks l c.min-some.result) (sym there) (λ n below. c.hold.ensures.kept.each n (omega (arith, below)))

pub returns-then-not-hold : goal.returns-then-not-hold
returns-then-not-hold g c =
    let cell = g.C.CellSource.cell_of c.args.cells.now in
    let l = c.loop-count in
    let whole = to_give c.args.profile cell c.args.text.now c.args.self.now in
    let now = c.hold.ensures.same ∙ l.invariant.rest in
    record {
      kept = c.hold.ensures.kept;
      counted = subst (λ n. l.count ≡ min n (length whole)) l.invariant.long
          (fills whole l.block l.count l.invariant.within l.invariant.front (inr (sym now ∙ c.hold.ensures.none c.if-not-hold.true)));
      front = l.invariant.front;
      rest = now;
    }

pub loop-count-preserved : goal.loop-count-preserved
loop-count-preserved g c =
    let cell = g.C.CellSource.cell_of c.args.cells.now in
    let profile = c.args.profile in
    let text = c.args.text.now in
    let l = c.loop-count in
    let k = c.hold.new.self in
    let some = c.min-some.result in
    let whole = to_give profile cell text c.args.self.now in
    let few : some ≤ k.left = omega arith in
    let now : to_give profile cell text k ≡ drop l.count whole = c.hold.ensures.same ∙ l.invariant.rest in
    let there : take (64 - k.next) (drop k.next k.block) ≡ drop k.next k.block = take_all (64 - k.next) (drop k.next k.block) (omega (arith, length-drop k.next k.block, c.hold.ensures.kept.size)) in
    record {
      kept = IsKept-skipped c.hold.ensures.kept some few;
      long = omega (arith, l.invariant.long);
      within = omega arith;
      front =
          c.put_breaks.ensures
          ∙ ap (λ (taken : List Break). taken ++ given_in (take (64 - k.next) (drop k.next k.block)) some) l.invariant.front
          ∙ ap (λ (r : List RawBreak). take l.count whole ++ given_in r some) there
          ∙ ap (λ (more : List Break). take l.count whole ++ more) (skipped-front c.hold.ensures.kept some few ∙ ap (take some) now)
          ∙ sym (take-add l.count some whole);
      rest = skipped-rest c.hold.ensures.kept some few ∙ ap (drop some) now ∙ drop-drop some l.count whole;
    }
