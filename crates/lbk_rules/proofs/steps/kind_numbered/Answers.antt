use Rattle.std.proofs.Common.{◌%◌, slice_index_or, ap, ◌∙◌}
use Rattle.lbk_uax14.specs.declared.verdicts.Kind.TheVariants.{No}
use Rattle.lbk_rules.specs.declared.steps.TheConstants.{KINDS_BY_NUMBER}
use Rattle.lbk_rules.proofs.ShownLemmas.{kind-read}
use Rattle.lbk_rules.proofs.steps.kind_numbered.Goals as goal

pub returns : goal.returns
returns c = λ kind is. ap (λ n. slice_index_or KINDS_BY_NUMBER n No) (c.from.ensures ∙ ap (λ n. n % 4) is) ∙ kind-read kind
