use Rattle.std.proofs.Common.{◌≡◌, ◌⊎◌, ◌<◌, [], length, take, Bool, true, false, is_some, refl, sym, ap, subst, ◌∙◌, ⊎_elim, arith}
use Rattle.std.proofs.lemmas.List.{length-take}
use Rattle.lbk_feed.specs.declared.intake.Intake.{Intake}
use Rattle.lbk_feed.specs.Block.{items, used}
use Rattle.lbk_feed.specs.View.{View, IsFront, LendsFront, CanGoOn, IsIdle, fault_of, AfterCall}
use Rattle.lbk_feed.specs.Intake.{view_of, WantsMore}
use Rattle.lbk_feed.proofs.Judged.{front, lends, judged-spent}
use Rattle.lbk_feed.proofs.Drawing.{no_bytes}
use Rattle.lbk_feed.proofs.Outcomes.{OnErr-at, OnOk-at, ended-met, ended-open}
use Rattle.lbk_feed.proofs.Stepping.{Finds-of, is_some-fault_of, Steps-still, Steps-spent, Steps-drawn, Steps-failed, Pays-drawn, Pays-failed, Pays-still}
use Rattle.lbk_feed.proofs.intake.Intake.settle.Goals as goal
use Rattle.lbk_feed.proofs.intake.Intake.settle.Goals.{After-refill}

front_of : (i : Intake) → IsFront (view_of i)
unfolding view_of
front_of i = front _ _ _ _ _ i.judged

lends_of : (i : Intake) → LendsFront (view_of i)
unfolding view_of
lends_of i = lends _ _ _ _ _ i.judged (used i.block) i.is_ended

not_idle : (i : Intake) → WantsMore i → i.is_spent ≡ false → ¬ (IsIdle (view_of i))
unfolding view_of
not_idle i due fresh idle = ⊎_elim
    (λ (some : 0 < length (take i.ready_len (items i.block))). absurd (omega (arith, due.none_ready, length-take i.ready_len (items i.block))))
    (λ (other : (i.is_ended ≡ true) ⊎ ((i.is_spent ≡ true) ⊎ (¬ (CanGoOn i.given (items i.block))))). ⊎_elim
    (λ (ended : i.is_ended ≡ true). absurd (let both = sym ended ∙ due.open_end in cc))
    (λ (later : (i.is_spent ≡ true) ⊎ (¬ (CanGoOn i.given (items i.block)))). ⊎_elim
    (λ (spent : i.is_spent ≡ true). absurd (let both = sym spent ∙ fresh in cc))
    (λ (certain : ¬ (CanGoOn i.given (items i.block))). certain due.goes_on)
    later)
    other)
    idle

pub returns-then-self-clause-call : goal.returns-then-self-clause-call
unfolding view_of
returns-then-self-clause-call g c =
    let i = c.args.self.now in
    let none : take i.ready_len (items i.block) ≡ [] = ap (λ n. take n (items i.block)) (i.judged.spent c.if-self.true) in
    record {
      steps = Steps-spent (view_of i) _ c.if-self.true none (front_of i) (lends_of i);
      pays = Pays-still (view_of i) i.is_spent (g.R.Source.reads_made c.args.reader.now);
      agrees = λ before. before;
      notices = λ _. refl;
    }

pub returns-then-not-wants_more-clause-call : goal.returns-then-not-wants_more-clause-call
unfolding view_of
returns-then-not-wants_more-clause-call g c =
    let i = c.args.self.now in
    let e = c.finish.ensures in
    let r = c.finish.result in
    let is = e.view ∙ ap (λ (s : Bool). record (view_of i) { is_spent = s }) (is_some-fault_of r) in
    subst (λ (v : View). AfterCall g.R.Source (view_of i) v c.args.reader.now c.args.reader.now (fault_of r)) (sym is)
    (record {
      steps = Steps-still (view_of i) _ (fault_of r) c.if-self.false (front_of i) (lends_of i) (Finds-of (view_of i) r e.text e.lies e.found);
      pays = Pays-still (view_of i) (is_some (fault_of r)) (g.R.Source.reads_made c.args.reader.now);
      agrees = λ before. before;
      notices = λ _. refl;
    })

pub invariant_of-self : goal.invariant_of-self
unfolding view_of
invariant_of-self g c =
    let failed = OnErr-at c.refill.result (sym c.is_err.ensures.value ∙ c.if-is_err.true) c.refill.ensures.refills.err in
    record { judged = judged-spent _ _ _ _ _ c.refill.new.self.judged failed.none_ready }

pub returns-then-is_err-clause-call : goal.returns-then-is_err-clause-call
unfolding view_of
returns-then-is_err-clause-call g c =
    let i = c.args.self.now in
    let m = c.refill.new.self in
    let failed = OnErr-at c.refill.result (sym c.is_err.ensures.value ∙ c.if-is_err.true) c.refill.ensures.refills.err in
    let due = c.wants_more.ensures.yes c.if-not-wants_more.false in
    record {
      steps = Steps-failed (view_of i) (view_of m) _ _ _ _ failed c.if-self.false (not_idle i due c.if-self.false) (no_bytes _ failed.none_ready) (front_of m) (lends_of m);
      pays = Pays-failed (view_of i) (view_of m) (g.R.Source.unread c.args.reader.now) (g.R.Source.unread c.refill.new.reader) _ _ failed;
      agrees = λ before ended. absurd (let other = sym ended ∙ failed.open_end in cc);
      notices = ended-open _ _ _ c.refill.ensures.refills.ended;
    }

pub returns-clause-call : goal.returns-clause-call
unfolding view_of
returns-clause-call g c =
    let i = c.args.self.now in
    let m = c.refill.new.self in
    let r = c.finish-2.result in
    let e = c.finish-2.ensures in
    let drawn = OnOk-at c.refill.result (sym c.is_err.ensures.value ∙ c.if-is_err.false) c.refill.ensures.refills.ok in
    let due = c.wants_more.ensures.yes c.if-not-wants_more.false in
    let is = e.view ∙ ap (λ (s : Bool). record (view_of m) { is_spent = s }) (is_some-fault_of r) in
    subst (λ (v : View). AfterCall g.R.Source (view_of i) v c.args.reader.now c.refill.new.reader (fault_of r)) (sym is)
    (record {
      steps = Steps-drawn (view_of i) (view_of m) _ _ _ _ (fault_of r) drawn c.if-self.false (not_idle i due c.if-self.false) (front_of m) (lends_of m) (Finds-of (view_of m) r e.text e.lies e.found);
      pays = Pays-drawn (view_of i) (view_of m) (g.R.Source.unread c.args.reader.now) (g.R.Source.unread c.refill.new.reader) _ _ _ drawn;
      agrees = λ before ended. (ended-met _ _ _ c.refill.ensures.refills.ended ended, drawn.at_end ended);
      notices = ended-open _ _ _ c.refill.ensures.refills.ended;
    })
