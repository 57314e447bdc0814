-- Runs: the parts of a list of kinds in which one kind stands again and again.
use Rattle.std.specs.Prelude.{◌≡◌, ℕ, ◌+◌, ◌==◌, ◌<◌, ◌≤◌, List, [], ◌∷◌, drop, if◌then◌else◌, length}
use Rattle.lbk_calls.specs.declared.runs.Run.{Run}

abbrev pub one_code : ℕ → Run
one_code kind = record { kind = kind; length = 1 }

-- the runs of a code of this kind and of what stands behind it, whose runs these are
unfoldable pub with_code : ℕ → List Run → List Run
with_code kind [] = one_code kind ∷ []
with_code kind (run ∷ runs) =
    if kind == run.kind then record { kind = kind; length = run.length + 1 } ∷ runs else one_code kind ∷ (run ∷ runs)

-- the runs of a list of kinds, each as long as it can be
unfoldable pub runs_of : List ℕ → List Run
runs_of [] = []
runs_of (kind ∷ rest) = with_code kind (runs_of rest)

-- this run comes next in a list of kinds, from this place on
pub record IsNext (kinds : List ℕ) (at : ℕ) (run : Run) : Type 0 where
  pub some : 0 < run.length
  pub within : at + run.length ≤ length kinds
  pub first : runs_of (drop at kinds) ≡ run ∷ runs_of (drop (at + run.length) kinds)
