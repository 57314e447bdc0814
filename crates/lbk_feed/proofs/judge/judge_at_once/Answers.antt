use Rattle.std.proofs.Common.{◌≡◌, Bool, true, false, not, sym, ap, ◌∙◌, is_some, cond}
use Rattle.lbk_feed.specs.declared.judge.Stop.TheVariants.{Cut, Faulty}
use Rattle.lbk_feed.specs.Text.{after_prefix}
use Rattle.lbk_feed.specs.Judge.{stop_of}
use Rattle.lbk_feed.proofs.Stops.{all_len, all_stop, err_stop}
use Rattle.lbk_feed.proofs.judge.judge_at_once.Goals as goal
use Rattle.lbk_feed.proofs.judge.judge_at_once.Goals.{In-Err}

pub returns-in-Ok-clause-ready_len : goal.returns-in-Ok-clause-ready_len
returns-in-Ok-clause-ready_len c = all_len c.args.bytes.now c.in-Ok.ensures.cases.1

pub returns-in-Ok-clause-stop : goal.returns-in-Ok-clause-stop
returns-in-Ok-clause-stop c = all_stop c.args.bytes.now c.in-Ok.ensures.cases.1

-- what follows the bytes up to which they are valid, as `error_len` tells it
stops : (c : In-Err) (found : Bool) → found ≡ is_some c.in-Err.error.error_len
    → cond found Faulty Cut ≡ stop_of (after_prefix c.args.bytes.now)
stops c found is =
    err_stop c.args.bytes.now c.in-Err.error.valid_up_to c.in-Err.error.error_len found c.in-Err.ensures.valid_len c.in-Err.ensures.fault
    c.in-Err.ensures.cases.1.short is

pub returns-then-is_none-clause-stop : goal.returns-then-is_none-clause-stop
returns-then-is_none-clause-stop c = stops (goal.at.returns-then-is_none-clause-stop c).In-Err false
    (sym (sym (ap is_some c.error_len.ensures) ∙ c.is_none.ensures ∙ ap not c.if-is_none.true))

pub returns-else-is_none-clause-stop : goal.returns-else-is_none-clause-stop
returns-else-is_none-clause-stop c = stops (goal.at.returns-else-is_none-clause-stop c).In-Err true
    (sym (sym (ap is_some c.error_len.ensures) ∙ c.is_none.ensures ∙ ap not c.if-is_none.false))
