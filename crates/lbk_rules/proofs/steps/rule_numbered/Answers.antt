use Rattle.std.proofs.Common.{slice_index_or, ap, ◌∙◌}
use Rattle.lbk_uax14.specs.declared.verdicts.Rule.TheVariants.{Lb2}
use Rattle.lbk_rules.specs.declared.steps.TheConstants.{RULES}
use Rattle.lbk_rules.proofs.ShownLemmas.{same-rule}
use Rattle.lbk_rules.proofs.steps.rule_numbered.Goals as goal

pub returns : goal.returns
returns c = λ rule is. ap (λ n. slice_index_or RULES n Lb2) (c.from.ensures ∙ is) ∙ same-rule rule
