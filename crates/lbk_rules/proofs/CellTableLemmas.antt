-- The kinds of the cells of all codes.
use Rattle.std.proofs.Common.{◌≡◌, ℕ, ◌<◌, ◌≤◌, List, Some, get_or, inl, inr, sym, subst, arith}
use Rattle.std.proofs.lemmas.Bool.{cases_lt}
use Rattle.std.proofs.lemmas.List.{get_or-replicate, get_or_past}
use Rattle.std.proofs.lemmas.List.FromFn.{get_or-map-range_with_len, length-map-range_with_len}
use Rattle.lbk_uax14.specs.declared.cells.Cell.{Cell}
use Rattle.lbk_rules.specs.declared.neighbours.Neighbours.{Neighbours}
use Rattle.lbk_rules.specs.declared.neighbours.TheConstants.{NO_NEIGHBOURS}
use Rattle.lbk_rules.specs.declared.steps.Step.{Step}
use Rattle.lbk_values.specs.declared.profile.Profile.{Profile}
use Rattle.lbk_rules.specs.Kinds.{kinds_of_cells}
use Rattle.lbk_rules.specs.Neighbours.{AreNeighboursOf, AreTold}
use Rattle.lbk_rules.specs.Rows.{steps_in}
use Rattle.lbk_rules.proofs.NeighboursLemmas.{neighbours-told}
use Rattle.lbk_rules.specs.FlatTable.{AreFlatKinds, AreKinds}
use Rattle.lbk_rules.specs.Kinds.{kind_of}
use Rattle.lbk_rules.proofs.KindsLemmas.{kind-few}
use Rattle.lbk_uax14.proofs.PagesLemmas.{scalar_below}
use Rattle.lbk_rules.proofs.RowMachineLemmas.{kind_same}

-- a code has the kind of its cell
pub kinds-at : (cell : ℕ → Cell) (code : ℕ) → code < 0x11_0000 → get_or (kinds_of_cells cell) code 0 ≡ kind_of (cell code)
unfolding kinds_of_cells
kinds-at cell code below = get_or-map-range_with_len (λ code. kind_of (cell code)) 0 0x11_0000 code code 0 below (omega arith)

-- no more have any
kinds-past : (cell : ℕ → Cell) (code : ℕ) → 0x11_0000 ≤ code → get_or (kinds_of_cells cell) code 0 ≡ 0
unfolding kinds_of_cells
kinds-past cell code past =
    get_or_past (kinds_of_cells cell) code 0 (subst (λ n. n ≤ code) (sym (length-map-range_with_len (λ code. kind_of (cell code)) 0 0x11_0000)) past)

-- each is a kind
pub kinds-are : (cell : ℕ → Cell) → AreKinds (kinds_of_cells cell)
kinds-are cell code = elim (cases_lt code 0x11_0000) [
  | inl below ↦ subst (λ n. n < 84) (sym (kinds-at cell code below)) (kind-few (cell code))
  | inr past ↦ subst (λ n. n < 84) (sym (kinds-past cell code past)) (omega arith)
]

-- they are those of the cells
pub kinds-flat : (cell : ℕ → Cell) → AreFlatKinds (kinds_of_cells cell) cell
kinds-flat cell code scalar =
    kind_same cell code (get_or (kinds_of_cells cell) code 0) (kinds-at cell code (scalar_below code scalar))

-- where nothing is known of bytes, nothing is told of them
pub none-told : (steps : List (List Step)) (kinds : List ℕ) → AreTold steps kinds NO_NEIGHBOURS
none-told steps kinds before byte low below = λ begins place special.
    let row : get_or NO_NEIGHBOURS.rows before 0 ≡ 1 = get_or-replicate 256 before 1 0 (omega arith) in
    absurd (omega (arith, row, place.0))

-- what follows from the kinds of a source's cells is told of them
pub cells-told : (cell : ℕ → Cell) (pairs : Neighbours) → AreNeighboursOf (kinds_of_cells cell) pairs → (profile : Profile)
    → AreTold (steps_in profile) (kinds_of_cells cell) pairs
cells-told cell pairs are profile = neighbours-told (kinds_of_cells cell) pairs (kinds-are cell) are profile

pub some-same : (one other : Neighbours) → Some one ≡ Some other → one ≡ other
some-same one other is = cc
