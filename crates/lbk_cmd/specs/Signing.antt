-- A text that is written up to each of its breaks, with the break's sign after it.
use Rattle.std.specs.Prelude.{ℕ, ◌≤◌, List, [], ◌∷◌, ◌++◌, drop, slice_range}
use Rattle.lbk_rules.specs.declared.Break.{Break}
use Rattle.lbk_cmd.specs.Mark.{sign}

-- the breaks rise, from `at` to at most `len`
abbrev pub IsCut : ℕ → ℕ → List Break → Type 0
IsCut at len [] = at ≤ len
IsCut at len (b ∷ bs) = (at ≤ b.at) × (b.at ≤ len) × IsCut b.at len bs

-- the text from `at` on, with the signs of the breaks in it
abbrev pub signed_from : List ℕ → List ℕ → ℕ → List Break → List ℕ
signed_from mark text at [] = drop at text
signed_from mark text at (b ∷ bs) = slice_range text at b.at ++ (sign mark b.kind ++ signed_from mark text b.at bs)
