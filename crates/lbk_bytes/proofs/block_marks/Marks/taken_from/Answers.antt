use Rattle.std.proofs.Common.{sym, ◌∙◌, arith}
use Rattle.lbk_bytes.proofs.BitLemmas.{lowest-from, lowest-inside, zeros-below, zeros-end, zeros-few}
use Rattle.lbk_bytes.proofs.block_marks.Marks.taken_from.Goals as goal

pub returns-clause-within : goal.returns-clause-within
returns-clause-within c =
    let stops = c.kept_from.result in
    (lowest-from c.args.self.stops c.args.begin stops (omega arith) (omega arith) c.kept_from.ensures, zeros-few stops)

pub returns-clause-inside : goal.returns-clause-inside
returns-clause-inside c = λ text at inside ended.
    lowest-inside text at c.args.self.stops c.args.begin c.kept_from.result (omega arith) (omega arith) inside ended c.kept_from.ensures

pub returns-clause-told : goal.returns-clause-told
returns-clause-told c = λ i after before.
    let stops = c.kept_from.result in
    let few = zeros-few stops in
    sym (c.kept_from.ensures.same i after (omega arith)) ∙ zeros-below stops (omega arith) i before

pub returns-clause-stops : goal.returns-clause-stops
returns-clause-stops c = λ few.
    let stops = c.kept_from.result in
    let some = lowest-from c.args.self.stops c.args.begin stops (omega arith) (omega arith) c.kept_from.ensures in
    sym (c.kept_from.ensures.same _ some few) ∙ zeros-end stops (omega arith) few
