-- Where the rest of a text may be decided by itself.
use Rattle.std.specs.Prelude.{◌≡◌, ℕ, ◌++◌, List, [], ◌∷◌, drop, map}
use Rattle.lbk_rules.specs.declared.Break.{Break}
use Rattle.lbk_rules.specs.declared.Cell.{Cell}
use Rattle.lbk_values.specs.declared.profile.Profile.{Profile}
use Rattle.lbk_rules.specs.Joins.{moved}
use Rattle.lbk_bytes.specs.Bytes.{breaks_of_bytes}

-- the last breaks of a text are those of the text that begins at this byte, moved by the bytes before it
abbrev pub IsSafeBreak : Profile → (ℕ → Cell) → List ℕ → ℕ → Type 0
IsSafeBreak profile cell text place =
    (front : List Break)
    × (breaks_of_bytes profile cell text
    ≡ front ++ map (moved place) (breaks_of_bytes profile cell (drop place text)))

-- where the last of the lines begins that end at these breaks, if the first begins at byte `at`
abbrev pub last_line : ℕ → List Break → ℕ
last_line at [] = at
last_line at (end ∷ []) = at
last_line at (here ∷ end ∷ more) = last_line here.at (end ∷ more)
