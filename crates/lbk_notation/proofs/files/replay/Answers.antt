use Rattle.std.proofs.lemmas.Result.{err_from_is_err_and}
use Rattle.lbk_notation.proofs.RunLemmas.{IfOk-replayed, Ran-fault, Ran-finished}
use Rattle.lbk_notation.proofs.files.replay.Goals as goal

pub returns-in_err-progress-clause-run : goal.returns-in_err-progress-clause-run
returns-in_err-progress-clause-run g c =
    let p = err_from_is_err_and c.from_residual.result c.from_residual.ensures.1 in
    rw (p.1, p.2) (Ran-fault _ _ _ _ c.in_err-progress.field-0.0 _ _ _ _ _ _ c.in_err-progress.ensures.run)

pub returns-clause-run : goal.returns-clause-run
returns-clause-run g c =
    Ran-finished _ _ _ _ c.in_ok-progress.progress c.finish.result _ _ _ _ _ _ _ c.in_ok-progress.ensures.devices.ended c.in_ok-progress.progress.within
    c.finish.ensures.faults.only c.in_ok-progress.ensures.run c.finish.ensures.ends

pub returns-clause-replayed : goal.returns-clause-replayed
returns-clause-replayed g c = IfOk-replayed _ _ _ _ c.finish.result _ _ _ _ _ _ c.in_ok-progress.ensures.devices.ended.1 (returns-clause-run g c)
