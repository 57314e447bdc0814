use Rattle.lbk_uax14.proofs.AnnexLemmas.{begins_in_closed_quotation, closes_quotation-begins}
use Rattle.lbk_uax14.proofs.annex.closing_quotation.Goals as goal

pub returns-clause-only : goal.returns-clause-only
returns-clause-only c = begins_in_closed_quotation

pub returns-clause-all : goal.returns-clause-all
returns-clause-all c = closes_quotation-begins
