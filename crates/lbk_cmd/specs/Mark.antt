-- What `mark` writes for a passage: its text, with a sign, such as ÷, at each position where a line may end.
use Rattle.std.specs.Prelude.{ℕ, Bool, false, List, [], ◌∷◌, ◌++◌, None, encode_utf8, if◌then◌else◌}
use Rattle.std.specs.List.{flat_map, last_or}
use Rattle.std.specs.Option.{option_map_or}
use Rattle.lbk_rules.specs.declared.Cell.{Cell}
use Rattle.lbk_rules.specs.declared.Kind.{Kind}
use Rattle.lbk_rules.specs.declared.Kind.TheVariants.{No, May, Must}
use Rattle.lbk_rules.specs.Classes.{◌or◌, BK, CR, LF, NL}
use Rattle.lbk_rules.specs.Marks.{Marked, scalars_of}

-- the mark where a line may end
abbrev pub sign : List ℕ → Kind → List ℕ
sign mark No = []
sign mark May = mark
sign mark Must = []

-- a scalar, and the sign of the position after it
abbrev pub signed : List ℕ → Marked → List ℕ
signed mark m = encode_utf8 m.scalar ++ sign mark m.after.kind

-- a line ends after a scalar of this class, whatever follows (rules LB4 and LB5)
abbrev pub is_line_end : Cell → Bool
is_line_end cell = (BK or CR or LF or NL) cell.class

-- LF, if the last scalar is no line end
abbrev pub missing_line_end : (ℕ → Cell) → List ℕ → List ℕ
missing_line_end cell scalars = if option_map_or (λ c. is_line_end (cell c)) (last_or None scalars) false then []
    else 10 ∷ []

-- the text of a passage with its signs; a passage without a line end, perhaps the last of a text, gets one
abbrev pub signed_passage : List ℕ → (ℕ → Cell) → List Marked → List ℕ
signed_passage mark cell ms = flat_map (signed mark) ms ++ missing_line_end cell (scalars_of ms)
