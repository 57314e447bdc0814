use Rattle.std.proofs.Common.{◌≡◌, ◌-◌, ◌==◌, not, false, arith}
use Rattle.std.proofs.lemmas.Bool.Decides.{nat_tests}
use Rattle.lbk_passage.proofs.KeptLemmas.{IsKept-filled, filled-none, filled-same}
use Rattle.lbk_passage.proofs.kept.Kept.hold.Goals as goal

pub returns-clause-kept : goal.returns-clause-kept
returns-clause-kept g c =
    let f = c.find-found in
    IsKept-filled c.requires (omega (arith, c.if-self-ne0.false)) f.ensures (omega (arith, f.auto.out)) (omega (arith, f.ensures.count, f.auto.out))

pub returns-clause-same : goal.returns-clause-same
returns-clause-same g c =
    let f = c.find-found in
    filled-same c.requires (omega (arith, c.if-self-ne0.false)) f.ensures (omega (arith, f.auto.out)) (omega (arith, f.ensures.count, f.auto.out))

pub returns-clause-none : goal.returns-clause-none
returns-clause-none g c = λ none.
    let f = c.find-found in
    let told : not (f.result.state.count - c.args.self.now.progress.state.count == 0) ≡ false = none in
    let no : f.result.state.count - c.args.self.now.progress.state.count ≡ 0 = grind (arith, nat_tests, told) in
    filled-none c.requires (omega (arith, c.if-self-ne0.false)) f.ensures (omega (arith, f.auto.out)) (omega (arith, f.ensures.count, f.auto.out)) (omega (arith, f.auto.out)) no
