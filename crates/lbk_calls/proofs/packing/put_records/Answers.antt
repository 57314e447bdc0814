use Rattle.std.proofs.Common.{◌∙◌, arith}
use Rattle.lbk_calls.proofs.PackingLemmas.{putting-all, putting-none, putting-on, putting-size}
use Rattle.lbk_calls.proofs.packing.put_records.Goals as goal

pub loop-at-init : goal.loop-at-init
loop-at-init c = putting-none c.args.kinds.now c.args.bytes.now

pub loop-at-preserved : goal.loop-at-preserved
loop-at-preserved c =
    putting-on c.args.kinds.now c.args.bytes.now c.loop-at.bytes c.put-size.new.bytes c.as_slice.result.now c.loop-at.at c.loop-at.size c.put-size.result c.run_at-run.result
    c.loop-at.invariant c.run_at-run.ensures.next c.loop-at.auto.bytes
    (c.as_slice.ensures.bytes ∙ c.of.ensures) c.as_slice.ensures.few c.put-size.ensures.end c.put-size.ensures.written

pub returns-clause-size : goal.returns-clause-size
returns-clause-size c =
    putting-size c.args.kinds.now c.args.bytes.now c.loop-at.at c.loop-at.size c.loop-at.bytes c.loop-at.invariant (omega arith)

pub returns-clause-records : goal.returns-clause-records
returns-clause-records c =
    putting-all c.args.kinds.now c.args.bytes.now c.loop-at.at c.loop-at.size c.loop-at.bytes c.loop-at.invariant (omega arith)
