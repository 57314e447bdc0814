-- The same scalars in several encodings.
use Rattle.std.specs.Prelude.{◌≡◌, ℕ, true, List, length, map, take}
use Rattle.std.specs.Char.Escape.{encode_utf16}
use Rattle.std.specs.List.{flat_map}
use Rattle.std.specs.Str.{all_scalars}
use Rattle.lbk_rules.specs.declared.Break.{Break}
use Rattle.lbk_rules.specs.declared.Cell.{Cell}
use Rattle.lbk_values.specs.declared.profile.Profile.{Profile}

-- the units of some scalars in UTF-16
abbrev pub encode_utf16_all : List ℕ → List ℕ
encode_utf16_all cs = flat_map encode_utf16 cs

-- a break of some scalars whose place is in scalars, at the units that spell the scalars before it
abbrev pub placed_in : (List ℕ → List ℕ) → List ℕ → Break → Break
placed_in encode cs found = record { at = length (encode (take found.at cs)); kind = found.kind; rule = found.rule }

-- the breaks or positions of scalars in an encoding are those of the scalars themselves, each at its units
abbrev pub AreThoseOfScalars : (List ℕ → List ℕ) → (Profile → (ℕ → Cell) → List ℕ → List Break)
    → (Profile → (ℕ → Cell) → List ℕ → List Break) → Type 0
AreThoseOfScalars encode of of_scalars =
    (profile : Profile) (cell : ℕ → Cell) (scalars : List ℕ) → all_scalars scalars ≡ true
    → of profile cell (encode scalars) ≡ map (placed_in encode scalars) (of_scalars profile cell scalars)
