use Rattle.std.proofs.Common.{sym, ap, ◌∙◌}
use Rattle.lbk_calls.specs.Padding.{padded}
use Rattle.lbk_calls.specs.RuleTexts.{rule_text_in}
use Rattle.lbk_calls.proofs.rule_texts.lbk_rule_text.Goals as goal

pub returns-in-Some : goal.returns-in-Some
returns-in-Some c =
    c.padded.ensures ∙ ap (padded 96) (c.as_bytes.ensures.value ∙ c.rule_text.ensures.text) ∙ ap rule_text_in c.in-Some.ensures

pub returns-in-None : goal.returns-in-None
returns-in-None c = ap rule_text_in (sym c.in-None.is ∙ c.numbered.ensures)
