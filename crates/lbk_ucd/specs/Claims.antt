-- The version that a file claims in its first line, and whether it is truncated.
use Rattle.std.specs.Prelude.{◌≡◌, ℕ, ◌&&◌, ◌||◌, Bool, not, List, ◌∷◌, codes, nat_eq}
use Rattle.std.specs.List.{ends_with, starts_with}
use Rattle.std.specs.Str.{IsTrimAsciiEnd}

-- a file begins like a published one
abbrev pub claims_name : List ℕ → Bool
claims_name bytes =
    starts_with nat_eq bytes (codes "# LineBreak-") || (starts_with nat_eq bytes (codes "# EastAsianWidth-")
    || (starts_with nat_eq bytes (codes "# DerivedGeneralCategory-")
    || starts_with nat_eq bytes (codes "# emoji-data.")))

-- a text ends like published files: in a line (after 10) of its own
abbrev pub ends_as_published : List ℕ → Bool
ends_as_published text = ends_with nat_eq text (10 ∷ codes "# EOF") || ends_with nat_eq text (10 ∷ codes "#EOF")

-- whether a file is truncated: it claims a published name, and does not end so, without trailing white space
abbrev pub TellsCut : List ℕ → Bool → Type 0
TellsCut bytes told = (text : List ℕ) × IsTrimAsciiEnd bytes text
    × (told ≡ (claims_name bytes && not (ends_as_published text)))
