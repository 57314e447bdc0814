use Rattle.std.proofs.Common.{◌∙◌, arith}
use Rattle.lbk_rules.specs.Unicode.{unicode_cell}
use Rattle.lbk_rules.proofs.KindsLemmas.{kind-few}
use Rattle.lbk_rules.proofs.UnicodeTables.{far-kind, far-trie}
use Rattle.lbk_rules.proofs.unicode.far_kind.Goals as goal

pub get-requires : goal.get-requires
get-requires c = far-trie

pub overflow_cast-result : goal.overflow_cast-result
overflow_cast-result c =
    let is = c.get.ensures ∙ far-kind c.args.code c.requires.0 c.requires.1 in
    omega (arith, is, kind-few (unicode_cell c.args.code))

pub returns : goal.returns
returns c = c.get.ensures ∙ far-kind c.args.code c.requires.0 c.requires.1
