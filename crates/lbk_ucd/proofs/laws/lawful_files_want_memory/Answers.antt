use Rattle.lbk_ucd.proofs.SampleLemmas.{lawful_refused}
use Rattle.lbk_ucd.proofs.laws.lawful_files_want_memory.Goals as goal

pub returns : goal.returns
returns c = λ files fault lawful refused. lawful_refused files fault lawful refused
