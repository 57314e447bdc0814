-- The pieces of any units of 16 or 32 bits, read as UTF-16 or UTF-32 (Unicode Standard, section 3.9, D91 and D90). A
-- surrogate that stands alone, and a number that is no scalar value, is read as U+FFFD and keeps its own unit.
use Rattle.std.specs.Prelude.{ℕ, List, length, map, Option, Some, None, if◌then◌else◌}
use Rattle.std.specs.Char.Escape.{encode_utf16}
use Rattle.std.specs.Char.Utf16.{utf16_chars}
use lib.Utf8.{scalar}
use Rattle.bstr.specs.Utf8.{Decoded, bad, good}

-- a scalar with the units that spell it, one or two, or one surrogate that stands alone
abbrev pub utf16_piece : Option ℕ → Decoded
utf16_piece None = bad 1
utf16_piece (Some c) = good c (length (encode_utf16 c))

abbrev pub pieces_of_utf16 : List ℕ → List Decoded
pieces_of_utf16 units = map utf16_piece (utf16_chars units)

-- a scalar value, or a number that is none
abbrev pub utf32_piece : ℕ → Decoded
utf32_piece unit = if scalar unit then good unit 1 else bad 1

abbrev pub pieces_of_utf32 : List ℕ → List Decoded
pieces_of_utf32 units = map utf32_piece units
