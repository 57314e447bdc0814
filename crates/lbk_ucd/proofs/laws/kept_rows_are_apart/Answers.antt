use Rattle.lbk_ucd.proofs.LawLemmas.{kept_apart}
use Rattle.lbk_ucd.proofs.laws.kept_rows_are_apart.Goals as goal

pub returns : goal.returns
returns g c = λ format bytes lawful. kept_apart format bytes lawful
