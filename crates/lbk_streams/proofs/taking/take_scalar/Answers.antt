use Rattle.std.proofs.Common.{true, false, refl, arith}
use Rattle.lbk_streams.specs.declared.taking.Step.{Step}
use Rattle.lbk_streams.proofs.TakingLemmas.{Steps-none, Steps-then}
use Rattle.lbk_streams.proofs.taking.take_scalar.Goals as goal

pub returns-then-before-out-clause-steps : goal.returns-then-before-out-clause-steps
returns-then-before-out-clause-steps g c =
    let met = c.meet-before in
    let step : Step = record { place = met.result.0; count = met.result.1; passed = false } in
    Steps-none c.args.next.size c.args.out.now met.new.out c.args.count c.args.place step refl met.ensures.steps

pub returns-clause-steps : goal.returns-clause-steps
returns-clause-steps g c =
    let met = c.meet-before in
    let pass = c.pass-count in
    let step : Step = record { place = met.result.0; count = met.result.1; passed = false } in
    let next : Step = record { place = pass.result.0; count = pass.result.1; passed = true } in
    Steps-then c.args.next.size c.args.out.now met.new.out pass.new.out c.args.count c.args.place step next (omega arith) refl met.ensures.steps pass.ensures.steps

pub returns-clause-stands : goal.returns-clause-stands
returns-clause-stands g c = λ cell p ps all flat is_char is_size some fits stands.
    let met = c.meet-before.ensures in
    let at = met.steps.at in
    c.pass-count.ensures.stands cell p ps all flat is_char is_size some (omega (arith, at)) (met.joins cell flat.kinds)
    (met.stands c.args.profile cell p ps all flat is_char stands)
