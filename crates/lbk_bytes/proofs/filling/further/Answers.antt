use Rattle.std.proofs.Common.{[], length, arith}
use Rattle.lbk_bytes.specs.Shown.{given_in}
use Rattle.lbk_bytes.proofs.ReachedLemmas.{Reached-alone, Reached-nothing}
use Rattle.lbk_bytes.proofs.filling.further.Goals as goal

pub returns-then-part-out-clause-reached : goal.returns-then-part-out-clause-reached
returns-then-part-out-clause-reached g c = λ cell all flat start.
    let profile = c.args.profile in
    let text = c.args.text.now in
    let part = c.common_part-part in
    let past = part.result.here in
    c.take_ones.ensures.reached cell all (length text) flat (omega arith)
    (Reached-alone profile cell text all past (given_in part.new.out past.count)
    (part.ensures.reached cell [] all flat
    (Reached-nothing profile cell text all c.args.here (given_in c.args.out.now c.args.here.count) start)))

pub returns-clause-reached : goal.returns-clause-reached
returns-clause-reached g c = λ cell all flat start.
    let profile = c.args.profile in
    let text = c.args.text.now in
    let part = c.common_part-part in
    let past = part.result.here in
    Reached-alone profile cell text all past (given_in part.new.out past.count)
    (part.ensures.reached cell [] all flat
    (Reached-nothing profile cell text all c.args.here (given_in c.args.out.now c.args.here.count) start))
