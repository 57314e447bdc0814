use Rattle.lbk_uax14.proofs.AnnexLemmas.{heads-is_head, units_one_more}
use Rattle.lbk_uax14.proofs.annex.heads.Goals as goal

pub returns-clause-one_more : goal.returns-clause-one_more
returns-clause-one_more c = units_one_more

pub returns-clause-outwards : goal.returns-clause-outwards
returns-clause-outwards c = heads-is_head
