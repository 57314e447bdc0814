use Rattle.std.proofs.Common.{◌+◌, ◌<◌, ◌++◌, length, length-append, refl, ap, ◌∙◌, inl, arith}
use Rattle.lbk_rules.specs.Rows.{step_by}
use Rattle.lbk_bytes.proofs.AnyPieceLemmas.{read-decided, reads-as, reads-as-more}
use Rattle.lbk_bytes.proofs.pieces.pieces.Goals as goal

pub kind_at-requires : goal.kind_at-requires
kind_at-requires g c =
    (reads-as c.args.text.now c.taking.at c.piece_of-piece.result.code c.piece_of-piece.result.size (omega arith) c.piece_of-piece.ensures.code c.piece_of-piece.ensures.size).scalar

pub overflow_add-at : goal.overflow_add-at
overflow_add-at g c =
    let r = reads-as c.args.text.now c.taking.at c.piece_of-piece.result.code c.piece_of-piece.result.size (omega arith) c.piece_of-piece.ensures.code c.piece_of-piece.ensures.size in
    omega (arith, r.within)

pub taking-smaller : goal.taking-smaller
taking-smaller g c =
    let r = reads-as c.args.text.now c.taking.at c.piece_of-piece.result.code c.piece_of-piece.result.size (omega arith) c.piece_of-piece.ensures.code c.piece_of-piece.ensures.size in
    omega (arith, r.within, r.some)

pub taking-preserved : goal.taking-preserved
taking-preserved g c =
    let l = c.taking in
    let x = c.piece_of-piece.result.code in
    let size = c.piece_of-piece.result.size in
    let step = c.step_at-step.result.now in
    let put = c.put-count in
    let text = c.args.text.now in
    let inside : l.at < length text = omega arith in
    let r = reads-as text l.at x size inside c.piece_of-piece.ensures.code c.piece_of-piece.ensures.size in
    let four : l.at + 3 < length text = omega arith in
    record {
      within = (put.ensures.fits (l.at + size) c.args.stop (omega arith) l.invariant.within.0, c.step_at-step.ensures.begins, r.within);
      onward = (omega (arith, l.invariant.onward.0), omega (arith, l.invariant.onward.1, put.ensures.counts));
      in_order = λ from order. put.ensures.in_order from (l.at + size) (omega (arith, r.some)) (l.invariant.in_order from order);
      near = λ _. omega (arith, r.few);
      reached = λ profile cell more all last swift are_kinds stops start.
          put.ensures.reached profile cell (text ++ more) all last l.row (record { shown = step.shown; row = step.next; at = l.at + size }) refl
          (omega (arith, length-append text more)) (omega (arith, stops))
          (read-decided profile cell (text ++ more) c.args.steps.now (g.K.KindSource.kinds_of c.args.kinds.now) l.row l.at x size step swift are_kinds
          (reads-as-more text more l.at x size four r) (c.step_at-step.ensures.read ∙ ap (step_by c.args.steps.now l.row) c.kind_at.ensures) (inl c.if-step-eq-HELD.false))
          (l.invariant.reached profile cell more all last swift are_kinds stops start);
    }
