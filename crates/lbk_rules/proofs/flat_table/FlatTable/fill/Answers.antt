use Rattle.std.proofs.Common.{ap, ◌∙◌, arith}
use Rattle.std.specs.Prelude.{IsTrue}
use Rattle.lbk_rules.specs.CellOfTables.{cell_of_tables}
use Rattle.lbk_rules.specs.Kinds.{kind_cell}
use Rattle.lbk_rules.specs.KindTable.{kind_at}
use Rattle.lbk_rules.proofs.KindsLemmas.{kind-cell, real-kind}
use Rattle.lbk_uax14.proofs.PagesLemmas.{scalar_below}
use Rattle.lbk_rules.proofs.flat_table.FlatTable.fill.Goals as goal

copied : (c : goal.After-drop-kinds) → IsTrue c.complete.result
copied c = c.complete.ensures.kinds.1 (rw (c.copy_from_slice.ensures.after ∙ c.deref.ensures.value) c.in_ok-kinds.kinds.few)

pub returns-clause-table : goal.returns-clause-table
unfolding kind_at
returns-clause-table c = c.complete.ensures.table (copied c) (cell_of_tables c.args.tables.now)
    (rw (c.copy_from_slice.ensures.after ∙ c.deref.ensures.value)
    (λ code scalar.
    ap kind_cell (real-kind _ (c.in_ok-kinds.kinds.few code))
    ∙ ap kind_cell (c.in_ok-kinds.ensures.kinds code (let below = scalar_below code scalar in omega arith))
    ∙ kind-cell (cell_of_tables c.args.tables.now code)))

pub returns-clause-whole : goal.returns-clause-whole
returns-clause-whole c = c.complete.ensures.whole (copied c)

pub returns-clause-neighbours : goal.returns-clause-neighbours
returns-clause-neighbours c = c.complete.ensures.neighbours (copied c)

pub returns-clause-kinds : goal.returns-clause-kinds
unfolding kind_at
returns-clause-kinds c = rw (c.complete.ensures.same ∙ c.copy_from_slice.ensures.after ∙ c.deref.ensures.value) (λ code below. c.in_ok-kinds.ensures.kinds code below)
