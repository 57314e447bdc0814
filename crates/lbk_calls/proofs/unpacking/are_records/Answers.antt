use Rattle.std.proofs.Common.{arith, rules}
use Rattle.lbk_calls.proofs.PackingLemmas.{matching-all}
use Rattle.lbk_calls.proofs.unpacking.are_records.Goals as goal

pub returns : goal.returns
returns c =
    let all = matching-all c.args.kinds.now c.args.bytes.now c.loop-at.left.now c.loop-at.at c.loop-at.invariant (omega arith) in
    (λ empty. all.0 (search rules), λ same. let none = all.1 same in search rules)
