use Rattle.std.proofs.Common.{◌≤◌, ◌<◌, arith, ap}
use Rattle.std.proofs.lemmas.Bool.Decides.{nat_tests}
use Rattle.lbk_chunks.specs.declared.cut.Mark.{Mark}
use Rattle.lbk_chunks.proofs.BlockLemmas.{block-none}
use Rattle.lbk_chunks.proofs.GivenLemmas.{keeps-more}
use Rattle.lbk_chunks.proofs.window.Window.read_past.Goals as goal

pub loop-self-init : goal.loop-self-init
loop-self-init g c =
    let r = c.reread.ensures in
    record { keeps = r.keeps; before = r.before }

pub loop-self-preserved : goal.loop-self-preserved
loop-self-preserved g c =
    let r = c.read_on.ensures in
    let i = c.loop-self.invariant in
    record {
      keeps = keeps-more (g.K.KindSource.kinds_of c.args.table.now) (g.K.KindSource.pairs_of c.args.table.now) c.args.text.now c.args.self.now c.loop-self.self c.read_on.new.self i.keeps r.keeps;
      before = λ _. (let same = ap (λ (m : Mark). m.at) r.before in omega (arith, same, c.loop-self-test.true));
    }

pub returns-then-self-clause-none : goal.returns-then-self-clause-none
returns-then-self-clause-none g c = λ cell cuts rising kept home no.
    let i = c.loop-self.invariant in
    let are = i.keeps.are cell cuts rising kept in
    block-none cell (g.K.KindSource.kinds_of c.args.table.now) (g.K.KindSource.pairs_of c.args.table.now) c.args.text.now cuts rising c.loop-self.self.newer c.args.at are.newer c.if-self.true c.loop-self-test.true

pub returns-clause-reaches : goal.returns-clause-reaches
returns-clause-reaches g c = λ yes.
    let self = c.loop-self.self in
    let early : self.newer.before.at ≤ c.args.at = grind (arith, nat_tests) in
    (early, c.loop-self-test.false)

pub returns-clause-none : goal.returns-clause-none
returns-clause-none g c = λ cell cuts rising kept home no.
    let self = c.loop-self.self in
    let late : c.args.at < self.newer.before.at = grind (arith, nat_tests) in
    absurd (let none : ⊥ = omega (arith, late, c.loop-self.invariant.before home) in none)
