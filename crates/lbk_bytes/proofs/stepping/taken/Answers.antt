use Rattle.std.proofs.Common.{ℕ, not, ◌==◌, ◌+◌, ◌<◌, ◌++◌, length, length-append, refl, ap, ◌∙◌, inl, inr, arith}
use Rattle.lbk_rules.specs.Rows.{step_by}
use Rattle.lbk_bytes.proofs.AnyPieceLemmas.{as-read, read-decided}
use Rattle.lbk_bytes.proofs.CutLemmas.{reads-more}
use Rattle.lbk_bytes.proofs.PieceLemmas.{reads}
use Rattle.lbk_bytes.proofs.StepLemmas.{Settles}
use Rattle.lbk_bytes.proofs.stepping.taken.Goals.{else-this-ne0-via-then-this-ne0+else-step-eq-HELD, else-this-ne0-via-else-this-ne0}
use Rattle.lbk_bytes.proofs.stepping.taken.Goals as goal

pub kind_at-requires : goal.kind_at-requires
kind_at-requires g c =
    let s = c.in_ok-scalar in
    (reads c.args.text.now c.args.here.at s.scalar.code s.scalar.size (omega arith) s.ensures.reads).scalar

pub overflow_add-result : goal.overflow_add-result
overflow_add-result g c =
    let s = c.in_ok-scalar in
    omega (arith, (reads c.args.text.now c.args.here.at s.scalar.code s.scalar.size (omega arith) s.ensures.reads).within)

pub returns-clause-takes : goal.returns-clause-takes
returns-clause-takes g c =
    let here = c.args.here in
    let s = c.in_ok-scalar.scalar in
    let step = c.step_at-step.result.now in
    let put = c.put-count.ensures in
    let text = c.args.text.now in
    let inside : here.at < length text = omega arith in
    let settles : Settles c.args.steps.now step =
    elim c.else-this-ne0.branch [
      | else-this-ne0-via-then-this-ne0+else-step-eq-HELD w ↦ inl w.if-step-eq-HELD.false
      | else-this-ne0-via-else-this-ne0 w ↦ inr (c.requires.settled (ap (λ (n : ℕ). not (n == 0)) w.if-this-ne0.false))
    ] in
    let r = reads text here.at s.code s.size inside c.in_ok-scalar.ensures.reads in (
      omega (arith, r.some),
      λ stop before fits.
          record {
            within = (put.fits (here.at + s.size) stop (omega (arith, r.some)) fits, c.step_at-step.ensures.begins, r.within);
            onward = (omega arith, omega (arith, put.counts.0));
            in_order = λ from order. put.in_order from (here.at + s.size) (omega (arith, r.some)) order;
            near = λ _. omega (arith, r.few);
            reached = λ profile cell more all last swift are_kinds stops start.
                put.reached profile cell (text ++ more) all last here.row (record { shown = step.shown; row = step.next; at = here.at + s.size }) refl
                (omega (arith, length-append text more)) (omega (arith, stops))
                (read-decided profile cell (text ++ more) c.args.steps.now (g.K.KindSource.kinds_of c.args.kinds.now) here.row here.at s.code s.size step swift are_kinds
                (as-read (text ++ more) here.at s.code s.size (reads-more text more here.at s.code s.size inside r)) (c.step_at-step.ensures.read ∙ ap (step_by c.args.steps.now here.row) c.kind_at.ensures) settles)
                start;
          },
    )
