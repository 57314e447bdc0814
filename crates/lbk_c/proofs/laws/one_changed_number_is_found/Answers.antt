use Rattle.lbk_c.proofs.DigestLemmas.{one-changed, same-content}
use Rattle.lbk_c.proofs.laws.one_changed_number_is_found.Goals as goal

pub returns-clause-content : goal.returns-clause-content
returns-clause-content c = one-changed

pub returns-clause-digest : goal.returns-clause-digest
returns-clause-digest c = same-content
