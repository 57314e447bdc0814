use Rattle.lbk_uax14.proofs.NormalLemmas.{between-normal, verdict-normal, held-normal}
use Rattle.lbk_uax14.proofs.laws.normal_cells.Goals as goal

pub returns : goal.returns
returns c = record {
  between = between-normal;
  at = verdict-normal;
  held = held-normal;
}
