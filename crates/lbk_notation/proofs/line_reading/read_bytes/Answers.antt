use Rattle.std.proofs.Common.{[], ◌∙◌, refl, sym, ap, arith}
use Rattle.lbk_notation.specs.Run.{step_of}
use Rattle.lbk_notation.proofs.ReadingLemmas.{Reads-on, Reads-scalar, Reads-mark}
use Rattle.lbk_notation.proofs.line_reading.read_bytes.Goals as goal
use Rattle.lbk_notation.proofs.line_reading.read_bytes.Goals.{in-On, in-OneScalar, in-OneMark}

pub loop-place-init : goal.loop-place-init
loop-place-init c = record { scalars = []; marks = []; few = omega arith; holds = c.new-content.ensures; good = tt; runs = refl }

pub loop-place-preserved : goal.loop-place-preserved
loop-place-preserved c =
    let was = c.loop-place.invariant in
    let within = c.loop-place-test.true in
    let sorted = ap (step_of c.args.form c.loop-place.state) (sym c.sort_of.ensures) in
    elim c.match-step.branch [
      | in-On w ↦
          rw (w.state-is, w.content-is) (Reads-on _ _ w.in-On.next _ _ _ 0 within (sorted ∙ sym w.in-On.ensures.taken) was)
      | in-OneScalar w ↦
          rw (w.state-is, w.content-is)
          (Reads-scalar _ _ _ _ _ _ _ 0 within (sorted ∙ sym w.in-OneScalar.ensures.taken) w.add_scalar.ensures was)
      | in-OneMark w ↦
          rw (w.state-is, w.content-is)
          (Reads-mark _ _ _ _ _ _ _ 0 within (sorted ∙ sym w.in-OneMark.ensures.taken) w.add_mark.ensures was)
    ]
