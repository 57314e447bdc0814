use Rattle.std.proofs.Common.{refl}
use Rattle.std.proofs.lemmas.Result.{on_ok_weaker}
use Rattle.lbk_notation.proofs.ReplayStateLemmas.{Stands-end}
use Rattle.lbk_notation.proofs.replay_state.ReplayState.end_line.Goals as goal

pub returns-clause-stands : goal.returns-clause-stands
returns-clause-stands g c = λ used out stands.
    on_ok_weaker c.settle.result
    (λ settles. Stands-end _ _ _ c.args.self.now _ c.settle.new.self used out refl refl refl refl refl settles stands) c.settle.ensures.settles
