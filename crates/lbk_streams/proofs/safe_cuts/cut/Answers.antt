use Rattle.std.proofs.Common.{◌+◌, ◌<◌, ℕ, length, refl, subst, sym, ◌∙◌, inl, inr, arith}
use Rattle.bstr.specs.Utf8.{pieces}
use Rattle.lbk_bytes.proofs.PieceLemmas.{piece-within}
use Rattle.lbk_streams.specs.Cuts.{IsPieceStart, IsSafeCut}
use Rattle.lbk_streams.specs.Looking.{LastIs}
use Rattle.lbk_streams.proofs.PieceStartLemmas.{starts_first, starts_last, starts_next}
use Rattle.lbk_streams.proofs.SafeLemmas.{at-each, cuts-after, joins-safe, last-next, safe, unsafe-between, unsafe-within}
use Rattle.lbk_streams.proofs.safe_cuts.cut.Goals as goal

pub returns-then-text-at : goal.returns-then-text-at
returns-then-text-at g c =
    let text = c.args.text.now in
    cuts-after pieces (g.K.KindSource.kinds_of c.args.table.now) (g.K.KindSource.pairs_of c.args.table.now) text c.args.at (length text) (λ profile cell. joins-safe profile cell text (length text)) (starts_last text)
    (λ cell are_kinds. inr (inl refl)) (omega arith) (omega arith) (λ first. omega arith) (λ cell place are_kinds from less. absurd (omega arith))

pub returns-then-at-eq0 : goal.returns-then-at-eq0
returns-then-at-eq0 g c =
    let text = c.args.text.now in
    cuts-after pieces (g.K.KindSource.kinds_of c.args.table.now) (g.K.KindSource.pairs_of c.args.table.now) text c.args.at 0 (λ profile cell. joins-safe profile cell text 0) (starts_first text)
    (λ cell are_kinds. inl refl) (omega arith) (omega arith) (λ first. refl) (λ cell place are_kinds from less. absurd (omega arith))

pub overflow_add-place : goal.overflow_add-place
overflow_add-place g c =
    let bounds = piece-within c.args.text.now c.piece_start-start.result (omega (arith, c.piece_start-start.ensures.before)) in
    omega (arith, bounds.1, c.class_at-last.ensures.size)

pub loop-place-init : goal.loop-place-init
loop-place-init g c =
    let text = c.args.text.now in
    let start = c.piece_start-start.result in
    let found = c.piece_start-start.ensures in
    let inside : start < length text = omega (arith, found.before) in
    let class = c.class_at-last.result.0 in
    let size = c.class_at-last.ensures.size in
    let bounds = piece-within text start inside in
    let next = starts_next text start inside found.begins in
    record {
      within = omega (arith, bounds.1, size);
      behind = omega (arith, size, found.holds);
      begins = subst (λ (n : ℕ). IsPieceStart text (start + n)) (sym size) next.begins;
      last = λ cell are_kinds. subst (λ (n : ℕ). LastIs cell text (start + n) class) (sym size) (last-next cell text start class next (c.class_at-last.ensures.class cell are_kinds));
      none = λ cell place are_kinds later before.
          unsafe-within cell text start place (omega (arith, found.before)) (omega (arith, bounds.1, size)) (omega (arith, size)) found.begins;
    }

pub returns-then-must_end : goal.returns-then-must_end
returns-then-must_end g c =
    let text = c.args.text.now in
    let l = c.loop-place in
    cuts-after pieces (g.K.KindSource.kinds_of c.args.table.now) (g.K.KindSource.pairs_of c.args.table.now) text c.args.at l.place (λ profile cell. joins-safe profile cell text l.place) l.invariant.begins
    (λ cell are_kinds.
    safe cell text l.place l.last c.class_at-next.result.0 c.loop-place-test.true l.invariant.begins
    (l.invariant.last cell are_kinds) (c.class_at-next.ensures.class cell are_kinds) (sym c.must_end.ensures ∙ c.if-must_end.true))
    l.invariant.within (omega (arith, l.invariant.behind)) (λ first. absurd (omega arith)) l.invariant.none

pub overflow_add-place-in-loop-place : goal.overflow_add-place-in-loop-place
overflow_add-place-in-loop-place g c =
    let bounds = piece-within c.args.text.now c.loop-place.place c.loop-place-test.true in
    omega (arith, bounds.1, c.class_at-next.ensures.size)

pub loop-place-smaller : goal.loop-place-smaller
loop-place-smaller g c =
    let bounds = piece-within c.args.text.now c.loop-place.place c.loop-place-test.true in
    omega (arith, bounds.0, bounds.1, c.class_at-next.ensures.size)

pub loop-place-preserved : goal.loop-place-preserved
loop-place-preserved g c =
    let text = c.args.text.now in
    let l = c.loop-place in
    let at = l.place in
    let inside = c.loop-place-test.true in
    let class = c.class_at-next.result.0 in
    let size = c.class_at-next.ensures.size in
    let bounds = piece-within text at inside in
    let next = starts_next text at inside l.invariant.begins in
    record {
      within = omega (arith, bounds.1, size);
      behind = omega (arith, l.invariant.behind);
      begins = subst (λ (n : ℕ). IsPieceStart text (at + n)) (sym size) next.begins;
      last = λ cell are_kinds. subst (λ (n : ℕ). LastIs cell text (at + n) class) (sym size) (last-next cell text at class next (c.class_at-next.ensures.class cell are_kinds));
      none = λ cell place are_kinds later before.
          at-each (λ (n : ℕ). ¬ (IsSafeCut cell text n)) at place
          (unsafe-between cell text at l.last class (omega (arith, l.invariant.behind)) inside (l.invariant.last cell are_kinds) (c.class_at-next.ensures.class cell are_kinds)
          (sym c.must_end.ensures ∙ c.if-must_end.false))
          (λ earlier. l.invariant.none cell place are_kinds later earlier)
          (λ behind. unsafe-within cell text at place behind (omega (arith, bounds.1, size)) (omega (arith, size)) l.invariant.begins);
    }

pub returns : goal.returns
returns g c =
    let text = c.args.text.now in
    let l = c.loop-place in
    cuts-after pieces (g.K.KindSource.kinds_of c.args.table.now) (g.K.KindSource.pairs_of c.args.table.now) text c.args.at l.place (λ profile cell. joins-safe profile cell text l.place) l.invariant.begins
    (λ cell are_kinds. inr (inl (omega (arith, l.invariant.within))))
    l.invariant.within (omega (arith, l.invariant.behind)) (λ first. absurd (omega arith)) l.invariant.none
