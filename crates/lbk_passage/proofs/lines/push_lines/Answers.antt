use Rattle.std.proofs.Common.{◌≤◌, ◌++◌, length, ap, ◌∙◌, arith}
use Rattle.std.specs.List.{flat_map}
use Rattle.std.specs.Slice.Iter.{chunks_rest}
use Rattle.std.proofs.lemmas.List.{length-take}
use Rattle.lbk_feed.proofs.Appended.{HasPut-before, on_err}
use Rattle.lbk_passage.proofs.lines.push_lines.Goals as goal

-- the list is as it was before these parts, whose lines belong behind it with those of the parts after them
pub returns-in_err-extend_from_slice-clause-refused : goal.returns-in_err-extend_from_slice-clause-refused
returns-in_err-extend_from_slice-clause-refused g c =
    let l = c.loop-some in
    let old = c.args.out.now.items in
    let later = flat_map (g.T.HasLine.line c.args.start) (chunks_rest l.some-iterator) in
    let new = c.extend_from_slice.new.self.items in
    let longer : length old ≤ length new =
    omega (arith, ap length l.invariant.kept, length-take (length old) l.out.items, ap length c.in_err-extend_from_slice.ensures.items) in
    on_err c.from_residual.result
    (HasPut-before old new (flat_map (g.T.HasLine.line c.args.start) c.args.parts.now) later
    (ap (λ is. is ++ later) c.in_err-extend_from_slice.ensures.items ∙ l.invariant.lines) longer)
