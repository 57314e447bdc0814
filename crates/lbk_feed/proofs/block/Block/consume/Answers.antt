use Rattle.std.proofs.Common.{◌≤◌, ◌++◌, ◌-◌, sym, ap, ◌∙◌, arith, length-take, take, drop}
use lib.Seq.{take-add}
use Rattle.lbk_feed.proofs.Ranges.{drop-slice_range, take-slice_range}
use Rattle.lbk_feed.proofs.block.Block.consume.Goals as goal

pub returns-clause-items : goal.returns-clause-items
returns-clause-items c =
    let b = c.args.self.now in
    let within : c.args.n ≤ b.end - b.start = omega (arith, c.requires, length-take (b.end - b.start) (drop b.start b.bytes)) in
    sym (drop-slice_range b.bytes b.start b.end c.args.n within)

pub returns-clause-used : goal.returns-clause-used
returns-clause-used c =
    let b = c.args.self.now in
    let within : c.args.n ≤ b.end - b.start = omega (arith, c.requires, length-take (b.end - b.start) (drop b.start b.bytes)) in
    take-add b.start c.args.n b.bytes ∙ ap (λ l. take b.start b.bytes ++ l) (sym (take-slice_range b.bytes b.start b.end c.args.n within))
