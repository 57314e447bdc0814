-- A position of a text that is at hand: what the scalars behind it decide.
use Rattle.std.proofs.Common.{◌≡◌, ℕ, List, map, reverse, sym, ◌∙◌}
use Rattle.lbk_uax14.specs.declared.cells.Cell.{Cell}
use Rattle.lbk_values.specs.declared.profile.Profile.{Profile}
use Rattle.lbk_uax14.specs.Chain.{from_cells}
use Rattle.lbk_uax14.specs.Normal.{normal, normals}
use Rattle.lbk_uax14.specs.Verdict.{verdict_between_in}
use Rattle.lbk_uax14.proofs.ChainLemmas.{verdict_between-chain}
use Rattle.lbk_uax14.proofs.NormalLemmas.{between-normal}

pub ahead-normal : (profile : Profile) (cell : ℕ → Cell) (taken : List ℕ) (right : List Cell)
    → from_cells profile (reverse (normals cell taken)) (map normal right) ≡ verdict_between_in profile (map cell taken) right
ahead-normal profile cell taken right =
    sym (verdict_between-chain profile (normals cell taken) (map normal right)) ∙ between-normal profile (map cell taken) right
