use Rattle.std.proofs.Common.{◌+◌, ◌++◌, ◌∙◌, ap, drop, arith}
use Rattle.std.proofs.lemmas.List.{drop_more}
use Rattle.lbk_notation.specs.declared.marks.Mark.TheVariants.{No}
use Rattle.lbk_notation.specs.Written.{written_after}
use Rattle.lbk_feed.proofs.Appended.{HasPut-within, on_err}
use Rattle.lbk_notation.proofs.Fronts.{written_after-more}
use Rattle.lbk_notation.proofs.writing.push_line.Goals as goal

pub returns-in_err-push_scalar-clause-refused : goal.returns-in_err-push_scalar-clause-refused
returns-in_err-push_scalar-clause-refused c =
    let l = c.loop-k in
    let scalars = c.args.scalars.now in
    let marks = c.args.marks.now in
    let rest = drop (l.k + 1 + 1) marks in
    let more = written_after-more c.args.form scalars (drop (l.k + 1) marks) rest l.k c.index-scalars-k.result _ c.loop-k-test.true c.index-scalars-k.is
    (drop_more marks (l.k + 1) No (omega arith)) in
    on_err _ (HasPut-within c.args.text.now.items l.text.items c.push_scalar.new.text.items _ (written_after c.args.form (drop (l.k + 1) scalars) rest) _
    c.in_err-push_scalar.ensures.refused (ap (λ w. l.text.items ++ w) more ∙ l.invariant.written) l.invariant.longer)
