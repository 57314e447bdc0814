use Rattle.lbk_c.proofs.EmptyLemmas.{empty_lawful, empty_unlisted}
use Rattle.lbk_c.proofs.laws.empty_files_list_no_code.Goals as goal

pub returns-clause-lawful : goal.returns-clause-lawful
returns-clause-lawful g c = empty_lawful

pub returns-clause-unlisted : goal.returns-clause-unlisted
returns-clause-unlisted g c = empty_unlisted
