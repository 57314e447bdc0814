use Rattle.std.proofs.Common.{rules, inr, sym, subst, ◌∙◌}
use Rattle.std.proofs.lemmas.Bool.{false≢true}
use Rattle.lbk_rules.specs.FlatTable.{AreFlatKinds}
use Rattle.lbk_calls.proofs.packed_tables.lbk_unpack.Goals as goal

pub returns-in-Ok : goal.returns-in-Ok
returns-in-Ok c = record {
  form = search rules;
  whole = search rules;
  table = λ _ cell kinds. c.complete.ensures.table c.if-complete.true cell (subst (λ all. AreFlatKinds all cell) c.complete.ensures.same kinds);
  each = search rules;
  refused = search rules;
  untouched = search rules;
  spoilt = search rules;
}

pub returns-in-Ok-2 : goal.returns-in-Ok-2
returns-in-Ok-2 c = record {
  form = search rules;
  whole = search rules;
  table = search rules;
  each = search rules;
  refused = λ _. inr (c.spoilt.ensures.cause, (c.unpack.new.kinds, c.in-Ok-2.ensures.form, λ are. false≢true (sym c.if-complete.false ∙ c.complete.ensures.kinds.1 are)));
  untouched = search rules;
  spoilt = search rules;
}
