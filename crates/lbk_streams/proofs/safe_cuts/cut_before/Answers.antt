use Rattle.std.proofs.Common.{◌-◌, ℕ, length, refl, sym, ◌∙◌, inl, inr, arith}
use Rattle.bstr.specs.Utf8.{pieces}
use Rattle.lbk_streams.specs.Cuts.{IsSafeCut}
use Rattle.lbk_streams.proofs.PieceStartLemmas.{starts_first, starts_last}
use Rattle.lbk_streams.proofs.SafeLemmas.{at-each, cuts-before, joins-safe, safe, unsafe-between, unsafe-within}
use Rattle.lbk_streams.proofs.safe_cuts.cut_before.Goals as goal

pub returns-then-text-at : goal.returns-then-text-at
returns-then-text-at g c =
    let text = c.args.text.now in
    cuts-before pieces (g.K.KindSource.kinds_of c.args.table.now) (g.K.KindSource.pairs_of c.args.table.now) text c.args.at (length text) (λ profile cell. joins-safe profile cell text (length text)) (starts_last text)
    (λ cell are_kinds. inr (inl refl)) (omega arith) (λ _. refl) (λ cell place are_kinds later up within. absurd (omega arith))

pub loop-place-init : goal.loop-place-init
loop-place-init g c =
    let text = c.args.text.now in
    let start = c.piece_start-start.result in
    let found = c.piece_start-start.ensures in
    record {
      within = omega (arith, found.before);
      begins = found.begins;
      next = c.class_at-next.ensures.class;
      none = λ cell place are_kinds later up. unsafe-within cell text start place later (omega arith) (omega (arith, found.holds)) found.begins;
    }

pub returns-then-must_end : goal.returns-then-must_end
returns-then-must_end g c =
    let l = c.loop-place in
    cuts-before pieces (g.K.KindSource.kinds_of c.args.table.now) (g.K.KindSource.pairs_of c.args.table.now) c.args.text.now c.args.at l.place (λ profile cell. joins-safe profile cell c.args.text.now l.place) l.invariant.begins
    (λ cell are_kinds.
    safe cell c.args.text.now l.place c.class_before-last.result.0 l.next (omega (arith, l.invariant.within)) l.invariant.begins
    (c.class_before-last.ensures.last cell are_kinds) (l.invariant.next cell are_kinds) (sym c.must_end.ensures ∙ c.if-must_end.true))
    (omega (arith, l.invariant.within)) (λ past. absurd (omega arith))
    (λ cell place are_kinds later up within. l.invariant.none cell place are_kinds later up)

pub loop-place-preserved : goal.loop-place-preserved
loop-place-preserved g c =
    let text = c.args.text.now in
    let l = c.loop-place in
    let at = l.place in
    let found = c.class_before-last.ensures in
    let start = at - c.class_before-last.result.1 in
    let size = found.size in
    let fits = found.fits in
    let some = found.some in
    let few = l.invariant.within in
    record {
      within = omega arith;
      begins = found.begins;
      next = found.first;
      none = λ cell place are_kinds later before.
          at-each (λ (n : ℕ). ¬ (IsSafeCut cell text n)) at place
          (unsafe-between cell text at c.class_before-last.result.0 l.next c.loop-place-test.true (omega arith) (found.last cell are_kinds) (l.invariant.next cell are_kinds)
          (sym c.must_end.ensures ∙ c.if-must_end.false))
          (λ earlier. unsafe-within cell text start place later (omega arith) (omega arith) found.begins)
          (λ behind. l.invariant.none cell place are_kinds behind before);
    }

pub returns : goal.returns
returns g c =
    let text = c.args.text.now in
    let l = c.loop-place in
    cuts-before pieces (g.K.KindSource.kinds_of c.args.table.now) (g.K.KindSource.pairs_of c.args.table.now) text c.args.at 0 (λ profile cell. joins-safe profile cell text 0) (starts_first text)
    (λ cell are_kinds. inl refl) (omega arith) (λ past. absurd (omega arith))
    (λ cell place are_kinds later up within. l.invariant.none cell place are_kinds (omega arith) up)
