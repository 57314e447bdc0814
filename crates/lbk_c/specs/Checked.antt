-- The numbers of a table that its digest is of.
use Rattle.std.specs.Prelude.{◌≡◌, ℕ, ◌^◌, ◌<◌, List, ◌∷◌, ◌++◌}
use Rattle.std.specs.List.{AllByRecursion, flat_map}
use Rattle.lbk_rules.specs.declared.flat_table.FlatTable.{FlatTable}
use Rattle.lbk_rules.specs.declared.neighbours.Neighbours.{Neighbours}

-- those of neighbours
abbrev pub numbers_of_neighbours : Neighbours → List ℕ
numbers_of_neighbours pairs = flat_map (λ row. row) pairs.sets.classes ++ pairs.sets.left ++ pairs.sets.right
    ++ pairs.rows

-- all, in their order
abbrev pub numbers_of : FlatTable → List ℕ
numbers_of table = numbers_of_neighbours table.pairs ++ table.kinds

-- of two tables the numbers are the same but for one, where they have these two, and each has at most 64 bits
pub record DifferInOne (table other : FlatTable) (one changed : ℕ) : Type 0 where
  pub front : List ℕ
  pub back : List ℕ
  pub here : numbers_of table ≡ front ++ one ∷ back
  pub there : numbers_of other ≡ front ++ changed ∷ back
  pub each : AllByRecursion (λ number. number < 2 ^ 64) (numbers_of table)
  pub other_each : AllByRecursion (λ number. number < 2 ^ 64) (numbers_of other)
