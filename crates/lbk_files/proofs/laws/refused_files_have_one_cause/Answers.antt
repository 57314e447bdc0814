use Rattle.lbk_ucd.proofs.Numbers.{one-cause}
use Rattle.lbk_files.proofs.laws.refused_files_have_one_cause.Goals as goal

pub returns : goal.returns
returns c = one-cause
