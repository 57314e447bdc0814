use Rattle.std.proofs.Common.{◌∙◌}
use Rattle.lbk_args.specs.Command.{greatest_byte}
use Rattle.lbk_args.proofs.Values.{number_told}
use Rattle.lbk_args.proofs.numbers.number_in.Goals as goal

pub returns : goal.returns
returns c = c.unwrap_or.ensures ∙ number_told _ greatest_byte c.args.text.now c.parse.result c.parse.ensures.value.0
