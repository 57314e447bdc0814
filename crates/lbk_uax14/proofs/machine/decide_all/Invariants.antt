use Rattle.std.proofs.Common.{◌≡◌, ℕ, ◌<◌, take, Some}
use Rattle.std.specs.List.{slice_get}
use Rattle.lbk_uax14.specs.Fits.{Fits}
use Rattle.lbk_uax14.specs.Verdict.{verdict}
use Rattle.lbk_uax14.proofs.machine.decide_all.Given as goal

abbrev pub invariant-loop-k : goal.invariant-loop-k
invariant-loop-k l = record {
  fits : Fits l.machine (take l.k l.cells);
  written : (k : ℕ) → k < l.k → slice_get l.verdicts k ≡ Some (verdict l.cells k);
}
