use Rattle.std.proofs.Common.{◌∙◌, ap, inl, inr, refl}
use Rattle.lbk_args.specs.Task.{task_of}
use Rattle.lbk_files.specs.declared.faults.NotReady.TheVariants.{Refused}
use Rattle.lbk_cmd.specs.Ending.{ending_of_files}
use Rattle.lbk_cmd.proofs.Runs.{ready_performs, same_fault}
use Rattle.lbk_cmd.proofs.command.perform_order.Goals as goal

pub returns-in-Ok-clause-performs : goal.returns-in-Ok-clause-performs
returns-in-Ok-clause-performs g c = record {
  runs = ready_performs g.T.File.Source (g.S.Store.file c.args.store.now) _ (task_of c.args.order) _ _ c.in-Ok.ready _ _
      c.in-Ok.ensures.made c.perform.ensures.runs;
  contents = c.perform.ensures.contents;
}

pub returns-in-Err-clause-performs : goal.returns-in-Err-clause-performs
returns-in-Err-clause-performs g c = record {
  runs = inl ((Refused c.in-Err.fault, inr c.in-Err.ensures.made, c.of_files.ensures, refl), refl);
  contents = refl;
}

pub returns-in-Ok-clause-takes : goal.returns-in-Ok-clause-takes
returns-in-Ok-clause-takes g c = record {
  refused = λ more. let other = c.in-Ok.ensures.takes.refused more in absurd (cc other);
  loads = c.in-Ok.ensures.takes.loads;
  files = c.in-Ok.ensures.takes.files;
}

pub returns-in-Err-clause-takes : goal.returns-in-Err-clause-takes
returns-in-Err-clause-takes g c = record {
  refused = λ more. c.of_files.ensures ∙ ap ending_of_files (same_fault _ _ _ refl (c.in-Err.ensures.takes.refused more));
  loads = c.in-Err.ensures.takes.loads;
  files = c.in-Err.ensures.takes.files;
}

pub perform-requires : goal.perform-requires
perform-requires g c κs = (refl, tt)
