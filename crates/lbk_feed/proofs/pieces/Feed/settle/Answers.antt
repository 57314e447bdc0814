use Rattle.std.proofs.Common.{◌≡◌, ◌⊎◌, ◌<◌, ℕ, List, length, eqb, not, Bool, true, false, None, Some, sym, ap, subst, ⊎_elim, arith}
use Rattle.std.specs.Bool.{OnTrue, OnFalse}
use Rattle.std.proofs.lemmas.Result.{err_from_is_err_and}
use Rattle.std.proofs.lemmas.Bool.{eqb-true, eqb-false}
use Rattle.lbk_feed.specs.Intake.{view_of}
use Rattle.lbk_feed.specs.View.{View, AfterCall, Asks}
use Rattle.lbk_feed.proofs.pieces.Feed.settle.Goals as goal

pub returns-in_err-settle-clause-call : goal.returns-in_err-settle-clause-call
returns-in_err-settle-clause-call g c =
    let exit = err_from_is_err_and c.from_residual.result c.from_residual.ensures.1 in
    rw (exit.1, exit.2)
    (subst (λ (v : View). AfterCall g.R.Source v (view_of c.settle.new.self) c.args.reader.now c.settle.new.reader (Some c.in_err-settle.field-0.0)) c.self.view_is c.in_err-settle.ensures.call)

pub returns-in_err-settle-clause-asks : goal.returns-in_err-settle-clause-asks
returns-in_err-settle-clause-asks g c =
    let exit = err_from_is_err_and c.from_residual.result c.from_residual.ensures.1 in
    rw (exit.1, exit.2)
    (subst (λ (v : View). Asks g.R.Source v c.args.reader.now c.settle.new.reader (Some c.in_err-settle.field-0.0)) c.self.view_is c.in_err-settle.ensures.asks)

pub returns-clause-call : goal.returns-clause-call
returns-clause-call g c =
    subst (λ (v : View). AfterCall g.R.Source v (view_of c.settle.new.self) c.args.reader.now c.settle.new.reader None) c.self.view_is c.in_ok-settle.ensures.call

pub returns-clause-asks : goal.returns-clause-asks
returns-clause-asks g c = subst (λ (v : View). Asks g.R.Source v c.args.reader.now c.settle.new.reader None) c.self.view_is c.in_ok-settle.ensures.asks

-- what is lent is not empty exactly where a byte is ready
some_ready : (lent ready : List ℕ) (b : Bool) → lent ≡ ready → b ≡ eqb (length lent) 0 → OnTrue (not b) (0 < length ready)
some_ready lent ready true same is = tt
some_ready lent ready false same is = let some = eqb-false (length lent) 0 (sym is) in omega (arith, ap length same)

none_ready : (lent ready : List ℕ) (P : Type 0) (b : Bool) → lent ≡ ready → b ≡ eqb (length lent) 0 → (0 < length ready) ⊎ P → OnFalse (not b) P
none_ready lent ready P true same is found =
    ⊎_elim (λ (some : 0 < length ready). absurd (omega (arith, eqb-true (length lent) 0 (sym is), ap length same))) (λ (p : P). p) found
none_ready lent ready P false same is found = tt

pub returns-clause-stands : goal.returns-clause-stands
returns-clause-stands g c = some_ready _ _ c.is_empty.result c.ready.ensures.ready c.is_empty.ensures

pub returns-clause-ends : goal.returns-clause-ends
returns-clause-ends g c = none_ready _ _ _ c.is_empty.result c.ready.ensures.ready c.is_empty.ensures c.in_ok-settle.ensures.call.steps.found
