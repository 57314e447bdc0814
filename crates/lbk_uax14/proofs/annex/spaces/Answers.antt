use Rattle.lbk_uax14.proofs.AnnexLemmas.{ends_in_spaces, past_spaces-ends}
use Rattle.lbk_uax14.proofs.annex.spaces.Goals as goal

pub returns-clause-only : goal.returns-clause-only
returns-clause-only c = ends_in_spaces

pub returns-clause-all : goal.returns-clause-all
returns-clause-all c = past_spaces-ends
