use Rattle.std.proofs.Common.{◌∙◌, ap, length, sym}
use Rattle.lbk_notation.proofs.Writes.{written_from}
use Rattle.lbk_notation.proofs.Answered.{only_of}
use Rattle.lbk_notation.proofs.writing.write_line.Goals as goal

pub returns-clause-again : goal.returns-clause-again
returns-clause-again c =
    written_from c.args.form c.args.line.now c.scalars.result.now c.marks.result.now c.push_line.new.text.items c.scalars.ensures.value
    c.marks.ensures.value (ap length (sym c.marks.ensures.value) ∙ c.marks.ensures.one_more) c.in_ok-push_line.ensures.chars (rw c.new-text.ensures.items at c.in_ok-push_line.ensures.text)

pub returns-clause-only : goal.returns-clause-only
returns-clause-only c = λ other is.
    only_of c.args.form c.push_line.new.text.items _ other (returns-clause-again c) is
