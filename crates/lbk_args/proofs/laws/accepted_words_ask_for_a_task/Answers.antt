use Rattle.std.proofs.Common.{◌≡◌, [], ◌∷◌, Option, None, Some, refl}
use Rattle.clap.specs.Kinds.{or_else}
use Rattle.clap.specs.Words.{Kinds, fault_of}
use Rattle.lbk_args.specs.Command.{lbk_app}
use Rattle.lbk_args.specs.Accepted.{task_fault}
use Rattle.lbk_args.specs.Task.{Task, task_by}
use Rattle.lbk_args.proofs.laws.accepted_words_ask_for_a_task.Goals as goal

-- where nothing is wrong, there is a task
asks : (faults : Kinds) (found : Option Task) → or_else faults (task_fault found) ≡ []
    → (task : Task) × (found ≡ Some task)
asks [] None clean = absurd (cc clean)
asks [] (Some task) clean = (task, refl)
asks (fault ∷ faults) found clean = absurd (cc clean)

pub returns : goal.returns
returns c words clean = asks (fault_of lbk_app words) (task_by words) clean
