use Rattle.lbk_c.proofs.DigestLemmas.{same-digest, same-number}
use Rattle.lbk_c.proofs.laws.no_step_leads_two_to_one.Goals as goal

pub returns-clause-numbers : goal.returns-clause-numbers
returns-clause-numbers c = same-number

pub returns-clause-digests : goal.returns-clause-digests
returns-clause-digests c = same-digest
