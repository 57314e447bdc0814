use Rattle.std.proofs.lemmas.Result.{on_ok_weaker}
use Rattle.lbk_notation.proofs.ReplayStateLemmas.{StandsAtEnd-held}
use Rattle.lbk_notation.proofs.replay_state.ReplayState.end_last.Goals as goal

pub returns : goal.returns
returns g c = record {
  stands = λ used out stands.
      on_ok_weaker c.settle.result
      (λ settles. StandsAtEnd-held _ _ _ c.args.self.now c.settle.new.self used out c.if-not-holds_line.ensures.yes settles stands) c.settle.ensures.settles;
}
