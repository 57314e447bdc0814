use Rattle.lbk_uax14.proofs.AnnexLemmas.{odd_run}
use Rattle.lbk_uax14.proofs.annex.indicators.Goals as goal

pub returns : goal.returns
returns c = odd_run
