use Rattle.std.proofs.Common.{inl, inr, refl}
use Rattle.lbk_cmd.proofs.performing.perform_titled.Goals as goal

pub returns-then-not-has_title : goal.returns-then-not-has_title
returns-then-not-has_title g c = rw (← c.has_title.ensures, c.if-not-has_title.true) c.perform_one.ensures

pub returns-in-Ok : goal.returns-in-Ok
returns-in-Ok g c = rw (← c.has_title.ensures, c.if-not-has_title.false) (inl (
  _,
  record { written = c.in-Ok.ensures.written; failed_writes = c.in-Ok.ensures.failures; reader = refl },
  c.perform_one-in-Ok.ensures,
))

pub returns-in-Err : goal.returns-in-Err
returns-in-Err g c = rw (← c.has_title.ensures, c.if-not-has_title.false) (inr (
  c.in-Err.fault,
  record { written = c.in-Err.ensures.written; failed_writes = c.in-Err.ensures.failures; reader = refl },
  c.of_text.ensures,
))
