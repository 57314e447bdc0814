use Rattle.lbk_ucd.proofs.Numbers.{no-dot, no-major, no-minor}
use Rattle.lbk_ucd.proofs.published.version_at.Goals as goal

pub returns-in_err-major : goal.returns-in_err-major
returns-in_err-major c = rw c.from_residual.ensures (no-major _ c.in_err-major.ensures)

pub returns-in_err-after_dot : goal.returns-in_err-after_dot
returns-in_err-after_dot c = rw c.from_residual-in_err-after_dot.ensures (no-dot _ _ _ c.in_ok-major.ensures c.in_err-after_dot.ensures)

pub returns-in_err-minor : goal.returns-in_err-minor
returns-in_err-minor c =
    rw c.from_residual-in_err-minor.ensures (no-minor _ _ _ _ c.in_ok-major.ensures c.in_ok-after_dot.ensures c.in_err-minor.ensures)
