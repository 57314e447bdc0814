use Rattle.std.proofs.Common.{take}
use Rattle.lbk_uax14.specs.Held.{unanswered}
use Rattle.lbk_uax14.specs.LateFits.{LateFits}
use Rattle.lbk_uax14.specs.Verdict.{verdict_in}
use Rattle.lbk_uax14.proofs.CoverLemmas.{Covers}
use Rattle.lbk_uax14.proofs.late_machine.decide_all_in.Given as goal

abbrev pub invariant-loop-k : goal.invariant-loop-k
invariant-loop-k l = record {
  fits : LateFits l.machine l.fn.profile (take l.k l.cells);
  covers : Covers (λ k. verdict_in l.fn.profile l.cells k) l.verdicts l.answers l.k
      (unanswered l.fn.profile (take l.k l.cells));
}
