use Rattle.std.proofs.Common.{◌≡◌, ◌<◌, ◌∷◌, ◌++◌, ◌+◌, [], ℕ, List, take, drop, length, map, arith, sym, ap, subst, ◌∙◌}
use Rattle.std.proofs.lemmas.List.{length-map, length_push, take_all}
use Rattle.lbk_rules.specs.StepperFits.{StepperFits}
use Rattle.lbk_rules.specs.Verdict.{verdict_in}
use Rattle.lbk_rules.proofs.CoverLemmas.{answer_at-below, late_at-below}
use Rattle.lbk_rules.proofs.StepLemmas.{AllCome, AllCome-start}
use Rattle.lbk_notation.specs.Put.{put, mark_now}
use Rattle.lbk_notation.specs.Marked.{mark_of}
use Rattle.lbk_notation.proofs.Markings.{Come, around, length-before, length-put, marks_turn, marks_end, length-marks_in}
use Rattle.lbk_notation.proofs.marking.marks_of.Goals as goal

pub loop-scalar-init : goal.loop-scalar-init
loop-scalar-init g c = record {
  fits = c.start-stepper.ensures;
  many = ap length c.in_ok-marks.ensures.items;
  come = AllCome-start c.args.profile _;
}

pub put_late-requires : goal.put_late-requires
put_late-requires g c = λ answer e.
    let f = g.C.CellSource.cell_of c.args.source.now in
    let scalars = c.args.scalars.now in
    let k = c.loop-scalar.scalar-index in
    let more = map f (drop (k + 1) scalars) in
    let count = length-before f scalars k (omega arith) in
    let short : length (take k scalars) < 18446744073709551615 = omega (arith, length-map (take k scalars) f) in
    let late = c.step-out.ensures.late c.args.profile f (take k scalars) more c.loop-scalar.invariant.fits short in
    let many = c.loop-scalar.invariant.many in
    let below = late_at-below c.args.profile (map f (take k scalars)) (f c.scalar-item.result) more answer (sym late ∙ e) in
    omega arith

pub loop-scalar-preserved : goal.loop-scalar-preserved
loop-scalar-preserved g c =
    let profile = c.args.profile in
    let f = g.C.CellSource.cell_of c.args.source.now in
    let scalars = c.args.scalars.now in
    let k = c.loop-scalar.scalar-index in
    let x = c.scalar-item.result in
    let more = map f (drop (k + 1) scalars) in
    let there = around f scalars k x c.loop-scalar-test.true c.scalar-item.is in
    let few : length (take k scalars) ≡ k = sym (length-map (take k scalars) f) ∙ there.count in
    let short : length (take k scalars) < 18446744073709551615 = omega arith in
    let fits = c.loop-scalar.invariant.fits in
    let many = c.loop-scalar.invariant.many in
    let is : c.push.new.self.items ≡ put c.step-out.result.late c.loop-scalar.marks.items ++ mark_now c.step-out.result.now ∷ [] =
    c.in_ok-push.ensures.items ∙ (ap (λ l. l ++ c.mark_now.result ∷ []) c.put_late.ensures
    ∙ ap (λ m. put c.step-out.result.late c.loop-scalar.marks.items ++ m ∷ []) c.mark_now.ensures) in
    record {
      fits = subst (StepperFits g.C.CellSource.cell_of c.step-out.new.self profile f) there.one_more
          (c.step-out.ensures.fits profile f (take k scalars) fits short);
      many = ap length is ∙ (length_push (put c.step-out.result.late c.loop-scalar.marks.items) (mark_now c.step-out.result.now)
          ∙ ap (λ n. n + 1) (length-put c.step-out.result.late c.loop-scalar.marks.items ∙ many));
      come = marks_turn profile (map f scalars) (map f (take k scalars)) (f x) more (map f (take (k + 1) scalars))
          c.step-out.result.late c.step-out.result.now c.loop-scalar.marks.items c.push.new.self.items
          there.whole there.next (many ∙ sym there.count)
          (c.step-out.ensures.late profile f (take k scalars) more fits short)
          (c.step-out.ensures.now profile f (take k scalars) more fits short) is c.loop-scalar.invariant.come;
    }

pub put_late-requires-2 : goal.put_late-requires-2
put_late-requires-2 g c = λ answer e.
    let profile = c.args.profile in
    let f = g.C.CellSource.cell_of c.args.source.now in
    let k = c.loop-scalar.scalar-index in
    let late = c.finish-end.ensures.late profile f (take k c.args.scalars.now) c.loop-scalar.invariant.fits in
    let below = answer_at-below profile (map f (take k c.args.scalars.now)) [] answer (sym late ∙ e) in
    omega (arith, length-before f c.args.scalars.now k (omega arith), c.loop-scalar.invariant.many)

pub returns-clause-marks : goal.returns-clause-marks
returns-clause-marks g c =
    let profile = c.args.profile in
    let f = g.C.CellSource.cell_of c.args.source.now in
    let k = c.loop-scalar.scalar-index in
    let scalars = c.args.scalars.now in
    let place : k ≡ length scalars = omega arith in
    let whole : take k scalars ≡ scalars = take_all k scalars (omega arith) in
    let fits = subst (StepperFits g.C.CellSource.cell_of c.loop-scalar.stepper profile f) whole c.loop-scalar.invariant.fits in
    let is : c.push-2.new.self.items ≡ put c.finish-end.result.late c.loop-scalar.marks.items ++ mark_of c.finish-end.result.end.kind ∷ [] =
    c.in_ok-push-2.ensures.items ∙ (ap (λ l. l ++ c.mark_of.result ∷ []) c.put_late-2.ensures
    ∙ ap (λ m. put c.finish-end.result.late c.loop-scalar.marks.items ++ m ∷ []) c.mark_of.ensures) in
    marks_end profile (map f scalars) c.finish-end.result.late c.finish-end.result.end c.loop-scalar.marks.items c.push-2.new.self.items
    (c.loop-scalar.invariant.many ∙ (place ∙ sym (length-map scalars f)))
    (c.finish-end.ensures.late profile f scalars fits)
    (c.finish-end.ensures.end profile f scalars fits ∙ ap (verdict_in profile (map f scalars)) (sym (length-map scalars f))) is
    (subst (λ (l : List ℕ). AllCome profile (map f l) (Come profile (map f scalars) c.loop-scalar.marks.items)) whole c.loop-scalar.invariant.come)

pub returns-clause-many : goal.returns-clause-many
returns-clause-many g c =
    ap length (returns-clause-marks g c) ∙ length-marks_in c.args.profile (g.C.CellSource.cell_of c.args.source.now) c.args.scalars.now
