use Rattle.std.proofs.Common.{rules, ap, ◌∙◌}
use Rattle.lbk_rules.specs.declared.Cell.{Cell}
use Rattle.lbk_rules.specs.Normal.{normal}
use Rattle.lbk_rules.specs.ClassLabels.{class_label}
use Rattle.lbk_calls.specs.Padding.{padded}
use Rattle.lbk_calls.proofs.class_labels.lbk_class.Goals as goal

pub returns-in-Some : goal.returns-in-Some
unfolding normal
returns-in-Some c =
    let label = c.padded.ensures ∙ ap (padded 4) (c.as_bytes.ensures.value ∙ c.class_label.ensures.name) in
    record {
      class = λ cell flat scalar.
          label
          ∙ ap (λ (x : Cell). padded 4 (class_label x.class)) (c.cell.ensures cell flat.kinds)
          ∙ ap (λ x. padded 4 (class_label (cell x).class)) c.in-Some.ensures.value.1;
      named = λ scalar. (c.cell.result.class, label);
      none = λ other. search rules;
    }
