use Rattle.std.proofs.Common.{◌∙◌, sym, arith}
use Rattle.std.proofs.lemmas.Bool.{le-ltb}
use Rattle.std.proofs.lemmas.List.Folds.{list_any_none}
use Rattle.lbk_ucd.specs.Rows.{shares}
use Rattle.lbk_ucd.proofs.RowLemmas.{none_shares, told_in_order}
use Rattle.lbk_ucd.proofs.ranges.InOrder.shares.Goals as goal

pub returns-then-at-rows : goal.returns-then-at-rows
returns-then-at-rows g c =
    let found = c.first_near-at.ensures in
    told_in_order c.args.self.now.rows.now c.args.span.first c.args.span.last c.first_near-at.result c.index-rows-at.result c.args.self.now.ordered found.before found.after c.if-at-rows.true

pub returns-else-at-rows : goal.returns-else-at-rows
returns-else-at-rows g c =
    let found = c.first_near-at.ensures in
    le-ltb _ _ c.if-at-rows.false
    ∙ sym (list_any_none (shares c.args.span.first c.args.span.last) c.args.self.now.rows.now
    (none_shares c.args.self.now.rows.now c.args.span.first c.args.span.last c.first_near-at.result c.args.self.now.ordered found.before (λ d lt. absurd (omega arith))))
