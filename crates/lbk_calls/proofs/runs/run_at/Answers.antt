use Rattle.std.proofs.Common.{◌∷◌, take, drop, length, ap, sym, ◌∙◌, arith}
use Rattle.std.proofs.lemmas.List.{drop-drop, length-drop}
use Rattle.lbk_calls.specs.Runs.{runs_of}
use Rattle.lbk_calls.proofs.RunsLemmas.{tail}
use Rattle.lbk_calls.proofs.runs.run_at.Goals as goal

pub returns-clause-next : goal.returns-clause-next
returns-clause-next c =
    let kinds = c.args.kinds.now in
    let run = c.first_run.result in
    let there = c.first_run.ensures in
    record {
      some = there.some;
      within = omega (arith, there.within, length-drop c.args.at kinds, ap length (tail c.args.at kinds));
      first =
          ap runs_of (sym (tail c.args.at kinds)) ∙ there.first ∙ ap (λ l. run ∷ runs_of (drop run.length l)) (tail c.args.at kinds)
          ∙ ap (λ l. run ∷ runs_of l) (drop-drop run.length c.args.at kinds);
    }

pub returns-clause-same : goal.returns-clause-same
returns-clause-same c =
    ap (take c.first_run.result.length) (sym (tail c.args.at c.args.kinds.now)) ∙ c.first_run.ensures.same
