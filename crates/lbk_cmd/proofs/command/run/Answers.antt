use Rattle.std.proofs.Common.{refl}
use Rattle.lbk_cmd.proofs.Alone.{performs_alone}
use Rattle.lbk_cmd.proofs.command.run.Goals as goal

pub returns : goal.returns
returns g c =
    let runs = c.run_over_texts.ensures.runs in
    record {
      samples = runs.samples;
      plain = λ task plain. performs_alone _ _ task _ _ _ _ _ (runs.plain task plain);
      accepted = λ task some accepted asks. performs_alone _ _ task _ _ _ _ _ (runs.accepted task some accepted asks);
      others = runs.others;
      unloaded = runs.unloaded;
      takes = runs.takes;
    }

pub run_over_texts-requires : goal.run_over_texts-requires
run_over_texts-requires g c κs = (refl, tt)
