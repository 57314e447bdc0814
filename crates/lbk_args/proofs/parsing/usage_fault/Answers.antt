use Rattle.lbk_args.proofs.Found.{one_mistake}
use Rattle.lbk_args.proofs.parsing.usage_fault.Goals as goal

pub returns-in-Ok : goal.returns-in-Ok
returns-in-Ok c kind is = one_mistake kind is
