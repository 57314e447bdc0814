use Rattle.std.proofs.Common.{◌-◌, arith, ltb, rules}
use Rattle.std.proofs.lemmas.Bool.Decides.{nat_tests}
use Rattle.std.proofs.lemmas.List.{get_or_default}
use Rattle.std.proofs.lemmas.List.Sorted.{IsPartitionPoint-from_clause, IsPartitionedBy-ltb}
use Rattle.lbk_ucd.specs.declared.ranges.Row.{Row}
use Rattle.lbk_ucd.proofs.RowLemmas.{ends_rise}
use Rattle.lbk_ucd.proofs.ranges.InOrder.first_near.Goals as goal

pub next_from-requires-clause-before : goal.next_from-requires-clause-before
next_from-requires-clause-before g c = λ k d low high.
    let rows = c.args.self.now.rows.now in
    let at = c.args.near - 1 in
    let rise = ends_rise rows c.args.self.now.ordered k at d (omega arith) (omega arith) in
    let ends = rw (get_or_default rows at c.index-rows-near.result d (omega arith)) at c.if-rows-near.true in
    omega arith

pub returns : goal.returns
returns g c =
    let p = IsPartitionPoint-from_clause (λ (row : Row g.row.V.Denot). ltb row.last c.args.code) c.args.self.now.rows.now _ c.partition_point.ensures.partitioned
    (IsPartitionedBy-ltb (λ (row : Row g.row.V.Denot). row.last) c.args.self.now.rows.now c.args.code (ends_rise c.args.self.now.rows.now c.args.self.now.ordered)) (λ a r q k. search (rules)) in
    record {
      within = search rules;
      before = λ k d low high. let e = p.0 k d low high in grind (arith, nat_tests);
      after = λ k d low high. let e = p.1 k d low high in grind (arith, nat_tests);
    }
