use Rattle.lbk_ucd.proofs.SampleLemmas.{samples_lawful}
use Rattle.lbk_ucd.proofs.laws.samples_are_lawful.Goals as goal

pub returns : goal.returns
returns c = λ files are. samples_lawful files are
