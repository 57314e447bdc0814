use Rattle.std.proofs.Common.{[], refl, arith}
use Rattle.lbk_notation.specs.Stream.{cut_of}
use Rattle.lbk_notation.proofs.replay_state.ReplayState.new.Goals as goal

pub returns-clause-stands : goal.returns-clause-stands
unfolding cut_of
returns-clause-stands c = λ cell form profile. record {
  taken = refl;
  held = (c.new.ensures.items, omega arith);
  findings = [];
  are = tt;
  number = refl;
  counts = c.none.ensures;
  text = refl;
}
