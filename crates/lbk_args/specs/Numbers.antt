-- A number in the arguments, and a number of bytes, perhaps with a unit.
use Rattle.std.specs.Prelude.{ℕ, ◌*◌, ◌-◌, ◌^◌, ◌==◌, ◌&&◌, ◌||◌, Bool, Option, None, Some, if◌then◌else◌}
use Rattle.std.specs.Prelude.{get_or, length, min, nat_lt, take}
use Rattle.std.specs.Str.Parse.{digits_value, without_leading_plus}
use Rattle.clap.specs.ValueTests.{is_numeral}
use Rattle.clap.specs.Words.{Text}
use Rattle.lbk_args.specs.Command.{greatest_byte}

-- the text is a 32-bit number in decimal, perhaps after a plus
abbrev pub is_number : Text → Bool
is_number text = is_numeral (without_leading_plus text) && nat_lt (digits_value 10 (without_leading_plus text)) (2 ^ 32)

-- the number in a text, or `other` if it has none
abbrev pub number_or : ℕ → Option Text → ℕ
number_or other None = other
number_or other (Some text) = if is_number text then digits_value 10 (without_leading_plus text) else other

-- behind a number K (75) and k (107) mean 1,024 bytes, and M (77) and m (109) 1,048,576; any other byte is no unit
abbrev pub unit_of : ℕ → ℕ
unit_of byte = if (byte == 75) || (byte == 107) then 1024 else if (byte == 77) || (byte == 109) then 1048576 else 1

-- what the last byte of a text means, and the text without a unit
abbrev pub last_of : Text → ℕ
last_of text = get_or text (length text - 1) 0

abbrev pub without_unit : Text → Text
without_unit text = if unit_of (last_of text) == 1 then text else take (length text - 1) text

-- the number of bytes that a text means, up to the greatest; the greatest, if it is no number
abbrev pub bytes_in : Text → ℕ
bytes_in text = min (number_or greatest_byte (Some (without_unit text)) * unit_of (last_of text)) greatest_byte

-- that of a text, or `other` if there is none
abbrev pub bytes_or : ℕ → Option Text → ℕ
bytes_or other None = other
bytes_or other (Some text) = bytes_in text
