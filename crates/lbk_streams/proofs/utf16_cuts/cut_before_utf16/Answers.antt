use Rattle.std.proofs.Common.{length, refl, inr, inl, arith}
use Rattle.lbk_units.specs.Units.{pieces_of_utf16}
use Rattle.lbk_streams.proofs.PairLemmas.{begins-apart, begins-last, joins-pair}
use Rattle.lbk_streams.proofs.SafeLemmas.{cuts-before, unsafe-here}
use Rattle.lbk_streams.proofs.utf16_cuts.cut_before_utf16.Goals as goal

pub returns-then-text-at : goal.returns-then-text-at
returns-then-text-at g c =
    let text = c.args.text.now in
    cuts-before pieces_of_utf16 (g.K.KindSource.kinds_of c.args.table.now) (g.K.KindSource.pairs_of c.args.table.now) text c.args.at (length text) (λ profile cell. joins-pair profile cell text (length text) (λ k. (c.type_inv.text k).fits)) (begins-last text)
    (λ cell are_kinds. inr (inl refl)) (omega arith) (λ _. refl) (λ cell place are_kinds later up within. absurd (omega arith))

pub loop-place-preserved : goal.loop-place-preserved
loop-place-preserved g c =
    let l = c.loop-place in
    record {
      before = omega (arith, l.invariant.before);
      none = λ cell place are_kinds later from.
          unsafe-here pieces_of_utf16 cell c.args.text.now l.place place c.may_begin.result c.if-may_begin.false (c.may_begin.ensures.safe cell are_kinds).1
          (λ earlier. absurd (omega arith)) (λ behind. l.invariant.none cell place are_kinds behind from);
    }

pub returns-then-may_begin : goal.returns-then-may_begin
returns-then-may_begin g c =
    let l = c.loop-place in
    cuts-before pieces_of_utf16 (g.K.KindSource.kinds_of c.args.table.now) (g.K.KindSource.pairs_of c.args.table.now) c.args.text.now c.args.at l.place (λ profile cell. joins-pair profile cell c.args.text.now l.place (λ k. (c.type_inv.text k).fits))
    (c.may_begin.ensures.begins c.if-may_begin.true) (λ cell are_kinds. (c.may_begin.ensures.safe cell are_kinds).0 c.if-may_begin.true)
    (omega (arith, l.invariant.before)) (λ past. absurd (omega arith)) (λ cell place are_kinds later up within. l.invariant.none cell place are_kinds later up)

pub returns : goal.returns
returns g c =
    let text = c.args.text.now in
    let l = c.loop-place in
    cuts-before pieces_of_utf16 (g.K.KindSource.kinds_of c.args.table.now) (g.K.KindSource.pairs_of c.args.table.now) text c.args.at 0 (λ profile cell. joins-pair profile cell text 0 (λ k. (c.type_inv.text k).fits))
    (begins-apart text 0 (λ some. absurd (omega arith))) (λ cell are_kinds. inl refl)
    (omega arith) (λ past. absurd (omega arith)) (λ cell place are_kinds later up within. l.invariant.none cell place are_kinds (omega arith) up)
