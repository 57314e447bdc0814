use Rattle.lbk_ucd.proofs.LawLemmas.{lawful_or_fault, lawful_no_fault, one_fault}
use Rattle.lbk_ucd.proofs.laws.files_have_one_fault_or_none.Goals as goal

pub returns-clause-either : goal.returns-clause-either
returns-clause-either g c = λ format bytes. lawful_or_fault format bytes

pub returns-clause-not_both : goal.returns-clause-not_both
returns-clause-not_both g c = λ format bytes line cause. lawful_no_fault format bytes line cause

pub returns-clause-one : goal.returns-clause-one
returns-clause-one g c = λ format bytes line other cause why. one_fault format bytes line other cause why
