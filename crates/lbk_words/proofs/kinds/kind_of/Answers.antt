use Rattle.std.proofs.Common.{◌<◌, subst, sym, ◌∙◌}
use Rattle.lbk_words.proofs.KindTrie.{IsTrie-kinds, is-kind, trie_value-kinds}
use Rattle.lbk_words.proofs.kinds.kind_of.Goals as goal

pub get-requires : goal.get-requires
get-requires c = IsTrie-kinds

pub returns-clause-kind : goal.returns-clause-kind
returns-clause-kind c = c.get.ensures ∙ trie_value-kinds c.args.code c.requires

pub returns-clause-few : goal.returns-clause-few
returns-clause-few c = subst (λ n. n < 32) (sym (c.get.ensures ∙ trie_value-kinds c.args.code c.requires)) (is-kind c.args.code c.requires).few
