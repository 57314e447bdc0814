use Rattle.std.proofs.Common.{arith, rules}
use Rattle.std.proofs.lemmas.List.{get_or_default}
use Rattle.lbk_ucd.proofs.RowLemmas.{ends_rise}
use Rattle.lbk_ucd.proofs.ranges.InOrder.next_from.Goals as goal

pub returns-else-rows-next : goal.returns-else-rows-next
returns-else-rows-next g c = record {
  within = search rules;
  before = search rules;
  after = λ k d low high.
      let rise = ends_rise c.args.self.now.rows.now c.args.self.now.ordered c.loop-next.next k d low high in
      let here = c.index-rows-next.result in
      let ends = rw (get_or_default c.args.self.now.rows.now c.loop-next.next here d (omega arith)) at c.if-rows-next.false in
      omega arith;
}
