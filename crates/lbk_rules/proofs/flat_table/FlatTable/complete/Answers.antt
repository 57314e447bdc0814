use Rattle.std.proofs.Common.{refl, sym, ◌∙◌}
use Rattle.std.proofs.lemmas.Bool.{false≢true}
use Rattle.lbk_rules.specs.FlatTable.{digest_of}
use Rattle.lbk_rules.proofs.KindsLemmas.{all-kinds, kinds-all}
use Rattle.lbk_rules.proofs.flat_table.FlatTable.complete.Goals as goal

pub of_kinds-self-requires : goal.of_kinds-self-requires
of_kinds-self-requires c = all-kinds c.args.self.now.kinds (sym c.are_kinds.ensures ∙ c.if-not-are_kinds.false)

pub returns-then-not-are_kinds-clause-kinds : goal.returns-then-not-are_kinds-clause-kinds
returns-then-not-are_kinds-clause-kinds c = (
  λ is. absurd (false≢true is),
  λ are. sym c.if-not-are_kinds.true ∙ c.are_kinds.ensures ∙ kinds-all c.args.self.now.kinds are,
)

pub returns-clause-table : goal.returns-clause-table
returns-clause-table c = λ _ cell kinds. record {
  kinds = kinds;
  told = c.of_kinds-self.ensures.told;
}

pub returns-clause-whole : goal.returns-clause-whole
unfolding digest_of
returns-clause-whole c = λ _. (refl, c.digest_now-self.ensures)
