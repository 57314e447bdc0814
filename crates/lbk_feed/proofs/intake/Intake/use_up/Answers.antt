use Rattle.std.proofs.Common.{◌≤◌, ◌+◌, ◌-◌, take, sym, ap, subst, ◌∙◌, length-take-le, arith}
use Rattle.std.proofs.lemmas.Str.{IsUtf8-take}
use Rattle.lbk_feed.specs.Block.{items}
use Rattle.lbk_feed.specs.Judge.{IsJudged}
use Rattle.lbk_feed.specs.Intake.{view_of}
use Rattle.lbk_feed.proofs.Judged.{ready_held, ready-IsUtf8, front, lends, judged-drop, ready-drop}
use Rattle.lbk_feed.proofs.intake.Intake.use_up.Goals as goal
use Rattle.lbk_feed.proofs.intake.Intake.use_up.Goals.{After-consume}

within : (c : After-consume) → c.args.n ≤ c.args.self.now.ready_len
unfolding view_of
within c =
    let i = c.args.self.now in
    omega (arith, c.requires.0, length-take-le i.ready_len (items i.block) (ready_held _ _ _ _ _ i.judged))

-- the numbers beside what is held after the first n bytes went
after : (c : After-consume) → let i = c.args.self.now in IsJudged (items c.consume.new.self) (i.given + c.args.n) (i.ready_len - c.args.n) i.stop i.is_spent
unfolding view_of
after c =
    let i = c.args.self.now in
    let text = IsUtf8-take (take i.ready_len (items i.block)) c.args.n (ready-IsUtf8 _ _ _ _ _ i.judged) c.requires in
    subst (λ l. IsJudged l (i.given + c.args.n) (i.ready_len - c.args.n) i.stop i.is_spent) (sym c.consume.ensures.items)
    (judged-drop _ _ _ _ _ i.judged c.args.n (within c) text)

pub invariant_of-self : goal.invariant_of-self
unfolding view_of
invariant_of-self c = record { judged = after (goal.at.invariant_of-self c).After-consume }

pub returns-clause-ready : goal.returns-clause-ready
unfolding view_of
returns-clause-ready c =
    let i = c.args.self.now in
    ap (λ l. take (i.ready_len - c.args.n) l) c.consume.ensures.items ∙ ready-drop _ _ _ _ _ i.judged c.args.n (within (goal.at.returns-clause-ready c).After-consume)

pub returns-clause-front : goal.returns-clause-front
unfolding view_of
returns-clause-front c = front _ _ _ _ _ (after (goal.at.returns-clause-front c).After-consume)

pub returns-clause-lends : goal.returns-clause-lends
unfolding view_of
returns-clause-lends c = lends _ _ _ _ _ (after (goal.at.returns-clause-lends c).After-consume) _ c.args.self.now.is_ended
