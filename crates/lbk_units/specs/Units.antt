-- The breaks of any units of 16 or 32 bits, read as UTF-16 or UTF-32 (Unicode Standard, section 3.9, D91 and D90). A
-- surrogate that stands alone, and a number that is no scalar value, is read as U+FFFD and keeps its own unit.
use Rattle.std.specs.Prelude.{ℕ, ◌+◌, Bool, List, [], ◌∷◌}
use Rattle.bstr.specs.Utf8.{Decoded}
use Rattle.lbk_rules.specs.declared.Break.{Break}
use Rattle.lbk_rules.specs.declared.Cell.{Cell}
use Rattle.lbk_values.specs.declared.profile.Profile.{Profile}
use Rattle.lbk_rules.specs.Marks.{marks}
use Rattle.lbk_bytes.specs.Bytes.{breaks_after, of_part, open_end}
pub use Rattle.lbk_bytes.specs.Pieces.{pieces_of_utf16, pieces_of_utf32, utf16_piece, utf32_piece}
use Rattle.lbk_bytes.specs.Reached.{scalars_of}
-- how many units some pieces have
pub use Rattle.lbk_words.specs.Words.{bytes_of as units_of}

-- the breaks of a text of some pieces: places are in units
abbrev pub breaks_of_pieces : Profile → (ℕ → Cell) → List Decoded → List Break
breaks_of_pieces profile cell ps = breaks_after 0 ps (marks profile cell (scalars_of ps))

abbrev pub breaks_of_utf16 : Profile → (ℕ → Cell) → List ℕ → List Break
breaks_of_utf16 profile cell units = breaks_of_pieces profile cell (pieces_of_utf16 units)

abbrev pub breaks_of_utf32 : Profile → (ℕ → Cell) → List ℕ → List Break
breaks_of_utf32 profile cell units = breaks_of_pieces profile cell (pieces_of_utf32 units)

-- the breaks of a part of a text by itself, which has these pieces. Where the text goes on after it, the last of them
-- is as it is there
abbrev pub breaks_of_part_of : Bool → Profile → (ℕ → Cell) → List Decoded → List Break
breaks_of_part_of goes_on profile cell ps =
    of_part goes_on (breaks_of_pieces profile cell ps) (open_end profile cell (scalars_of ps) (units_of ps))
