-- The marks of a text: its scalars, each with the verdict of the position after it on the whole text (UAX #14,
-- section 6).
use Rattle.std.specs.Prelude.{ℕ, List, [], ◌∷◌, ◌++◌, map, encode_utf8_all}
use Rattle.lbk_uax14.specs.declared.cells.Cell.{Cell}
use Rattle.lbk_values.specs.declared.profile.Profile.{Profile}
use Rattle.lbk_uax14.specs.declared.verdicts.Verdict.{Verdict}
use Rattle.lbk_uax14.specs.Verdict.{verdict_between_in}

-- a scalar, and the verdict of the position after it
pub record Marked : Type 0 where
  pub scalar : ℕ
  pub after : Verdict

-- the marks of the scalars after those of `before`: each position is between all cells of the text up to it and all
-- cells from it on
abbrev pub marks_behind : Profile → (ℕ → Cell) → List ℕ → List ℕ → List Marked
marks_behind profile cell before [] = []
marks_behind profile cell before (c ∷ cs) =
    record { scalar = c; after = verdict_between_in profile (map cell (before ++ c ∷ [])) (map cell cs) }
    ∷ marks_behind profile cell (before ++ c ∷ []) cs

-- the marks of a text
abbrev pub marks : Profile → (ℕ → Cell) → List ℕ → List Marked
marks profile cell text = marks_behind profile cell [] text

-- the scalars of some marks, and their bytes
abbrev pub scalars_of : List Marked → List ℕ
scalars_of ms = map (λ m. m.scalar) ms

abbrev pub text_of : List Marked → List ℕ
text_of ms = encode_utf8_all (scalars_of ms)

-- the same marks, except the verdict after the last one
abbrev pub ended : Verdict → List Marked → List Marked
ended end [] = []
ended end (m ∷ []) = record { scalar = m.scalar; after = end } ∷ []
ended end (m ∷ n ∷ ms) = m ∷ ended end (n ∷ ms)
