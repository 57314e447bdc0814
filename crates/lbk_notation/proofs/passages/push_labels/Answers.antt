use Rattle.std.proofs.Common.{◌≤◌, ◌++◌, length, ap, ◌∙◌, arith}
use Rattle.std.specs.Slice.Iter.{chunks_rest}
use Rattle.lbk_feed.proofs.Appended.{HasPut-before, on_err}
use Rattle.lbk_notation.specs.Shown.{written_labels}
use Rattle.lbk_notation.proofs.passages.push_labels.Goals as goal

-- the list is as it was before these verdicts, whose labels belong behind it with those after them
pub returns-in_err-extend_from_slice-clause-refused : goal.returns-in_err-extend_from_slice-clause-refused
returns-in_err-extend_from_slice-clause-refused c =
    let l = c.loop-some in
    let old = c.args.out.now.items in
    let later = written_labels (chunks_rest l.some-iterator) in
    let new = c.extend_from_slice.new.self.items in
    let longer : length old ≤ length new = omega (arith, l.invariant.longer, ap length c.in_err-extend_from_slice.ensures.items) in
    on_err c.from_residual.result
    (HasPut-before old new (written_labels c.args.verdicts.now) later
    (ap (λ is. is ++ later) c.in_err-extend_from_slice.ensures.items ∙ l.invariant.labels) longer)
