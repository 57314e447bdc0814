use Rattle.std.proofs.Common.{sym, ap, ◌∙◌}
use Rattle.lbk_calls.specs.Labels.{label_in}
use Rattle.lbk_calls.specs.Padding.{padded}
use Rattle.lbk_calls.proofs.labels.lbk_label.Goals as goal

pub returns-in-Some : goal.returns-in-Some
returns-in-Some c = c.padded.ensures ∙ ap (padded 4) (c.as_bytes.ensures.value ∙ c.label.ensures) ∙ ap label_in c.in-Some.ensures

pub returns-in-None : goal.returns-in-None
returns-in-None c = ap label_in (sym c.in-None.is ∙ c.numbered.ensures)
