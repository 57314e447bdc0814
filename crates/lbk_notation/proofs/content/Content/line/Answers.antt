use Rattle.std.proofs.Common.{◌+◌, sym, ap, ◌∙◌}
use Rattle.lbk_notation.proofs.Completes.{made-some}
use Rattle.lbk_notation.proofs.content.Content.line.Goals as goal

pub returns-then-self : goal.returns-then-self
returns-then-self c = λ scalars marks held. (
  record { scalars = scalars; marks = marks },
  made-some scalars marks (sym held.marks_counted ∙ c.if-self.true ∙ ap (λ n. n + 1) held.scalars_counted),
)
