use Rattle.std.proofs.Common.{◌∙◌}
use Rattle.lbk_rules.proofs.UnicodeTables.{flags-at, flags-trie}
use Rattle.lbk_rules.proofs.unicode.flags_of.Goals as goal

pub get-requires : goal.get-requires
get-requires c = flags-trie

pub returns : goal.returns
returns c = c.get.ensures ∙ flags-at c.args.code c.requires
