use Rattle.std.proofs.Common.{◌≡◌, ◌-◌, length, take, drop, replicate, ap, ◌∙◌, arith}
use Rattle.std.proofs.lemmas.List.{length-drop, length-take-le}
use Rattle.lbk_calls.proofs.FillingLemmas.{filling-all, filling-none, filling-on}
use Rattle.lbk_calls.proofs.unpacking.fill_runs.Goals as goal

pub loop-run-init : goal.loop-run-init
loop-run-init c = filling-none c.args.records.now c.args.kinds.now

-- the part that is filled has so many codes
long : (c : goal.After-slice_known-in-Some-1)
    → length (take (c.min-end.result - c.loop-run.at) (drop c.loop-run.at c.loop-run.kinds)) ≡ c.min-end.result - c.loop-run.at
long c =
    let all = length-drop c.loop-run.at c.loop-run.kinds in
    length-take-le (c.min-end.result - c.loop-run.at) (drop c.loop-run.at c.loop-run.kinds) (omega arith)

pub loop-run-preserved : goal.loop-run-preserved
loop-run-preserved c =
    filling-on c.args.records.now c.args.kinds.now c.loop-run.rest.now c.loop-run.kinds c.in-Some.after.now c.fill.new.self
    c.loop-run.at c.min-end.result c.in-Some.run' c.loop-run.invariant c.requires c.loop-run.auto.kinds c.in-Some.ensures.run
    c.in-Some.ensures.onward c.min-end.ensures
    (c.fill.ensures.after (λ y same. same) ∙ ap (λ n. replicate n c.in-Some.run'.kind) (long c))

pub returns : goal.returns
returns c =
    filling-all c.args.records.now c.args.kinds.now c.loop-run.rest.now c.loop-run.kinds c.loop-run.at c.loop-run.invariant
    c.requires c.loop-run.auto.kinds c.in_default.ensures.run
