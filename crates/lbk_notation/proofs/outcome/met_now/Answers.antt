use Rattle.std.proofs.Common.{refl}
use Rattle.std.proofs.lemmas.Option.{slice_get-get_or}
use Rattle.lbk_notation.proofs.outcome.met_now.Goals as goal

pub returns-in-None : goal.returns-in-None
returns-in-None c = rw c.in-None.is refl

pub returns-in-Some : goal.returns-in-Some
returns-in-Some c = rw c.in-Some.is (record { file = _; mark = slice_get-get_or c.args.marks.now c.args.position _ c.requires; same = c.met.ensures })
