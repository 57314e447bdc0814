use Rattle.std.proofs.Common.{inl, arith}
use Rattle.lbk_streams.proofs.feeding.is_whole.Goals as goal

pub returns-then-cut-eq0-clause-unfinished : goal.returns-then-cut-eq0-clause-unfinished
returns-then-cut-eq0-clause-unfinished g c = λ _ _. record {
  unfinished = inl c.if-cut-eq0.true;
  few = omega (arith, c.if-cut-eq0.true, g.met.U.StreamUnit.narrow.0);
}
