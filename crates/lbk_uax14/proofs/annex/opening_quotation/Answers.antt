use Rattle.lbk_uax14.proofs.AnnexLemmas.{ends_in_open_quotation, opens_quotation-ends}
use Rattle.lbk_uax14.proofs.annex.opening_quotation.Goals as goal

pub returns-clause-only : goal.returns-clause-only
returns-clause-only c = ends_in_open_quotation

pub returns-clause-all : goal.returns-clause-all
returns-clause-all c = opens_quotation-ends
