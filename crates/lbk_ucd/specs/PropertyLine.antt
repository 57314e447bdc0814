-- The meaning of a line of a property file, part by part (UAX #44, section 4.2). Lines are without LF.
use Rattle.std.specs.Prelude.{ℕ, ◌-◌, Bool, true, false, ◌&&◌, ◌||◌, not, ◌==◌, nat_eq, nat_lt, nat_le, if◌then◌else◌}
use Rattle.std.specs.Prelude.{List, length, take, drop, codes, slice_index, Option, Some, None, option_and_then}
use Rattle.std.specs.List.{prefix_len, suffix_len, position_or_len, before_first, after_first, list_any, list_all}
use Rattle.std.specs.List.{starts_with}
use Rattle.std.specs.Char.{is_digit, is_ascii_alphanumeric}
use Rattle.std.specs.Str.Parse.{digits_value}
use Rattle.std.specs.Option.{option_map, option_map_or}

-- the code points from first to last, and a value's name
pub record Entry : Type 0 where
  pub first : ℕ
  pub last : ℕ
  pub name : List ℕ

-- nothing, a row that gives code points a value, or a default for code points without a row
pub data Meaning : Type 0 where
  nothing : Meaning
  row : Entry → Meaning
  default : Entry → Meaning

infixl 10 ◌>>=◌
abbrev pub ◌>>=◌ : {A B : Type 0} → Option A → (A → Option B) → Option B
o >>= f = option_and_then f o

-- space or tab
abbrev pub is_space : ℕ → Bool
is_space byte = (byte == 32) || (byte == 9)

abbrev pub is_dot : ℕ → Bool
is_dot byte = byte == 46

abbrev pub is_semicolon : ℕ → Bool
is_semicolon byte = byte == 59

abbrev pub is_hash : ℕ → Bool
is_hash byte = byte == 35

-- a hex digit of either case
abbrev pub is_hex : ℕ → Bool
is_hex byte = is_digit byte 16

-- ASCII letter, digit or underscore
abbrev pub is_name_byte : ℕ → Bool
is_name_byte byte = is_ascii_alphanumeric byte || (byte == 95)

-- without leading white space, or without white space at both ends
abbrev pub trimmed_start : List ℕ → List ℕ
trimmed_start bytes = drop (prefix_len is_space bytes) bytes

abbrev pub trimmed : List ℕ → List ℕ
trimmed bytes = let rest = trimmed_start bytes in take (length rest - suffix_len is_space rest) rest

-- the number of four to six hex digits of either case
unfoldable pub code_of : List ℕ → Option ℕ
code_of digits =
    if (nat_le 4 (length digits) && nat_le (length digits) 6) && list_all is_hex digits
    then Some (digits_value 16 digits)
    else None

-- the ends of `code..code`
unfoldable pub pair_of : List ℕ → Option (ℕ × ℕ)
pair_of field =
    let rest = drop (position_or_len is_dot field) field in
    if starts_with nat_eq rest (codes "..")
    then (code_of (before_first is_dot field) >>= λ first. code_of (drop 2 rest) >>= λ last. Some (first, last))
    else None

-- the same; if single, also one code point, which is both ends
unfoldable pub range_of : Bool → List ℕ → Option (ℕ × ℕ)
range_of single field =
    if single && not (list_any is_dot field)
    then option_map (λ code. (code, code)) (code_of field)
    else pair_of field

-- one or more bytes of a name
unfoldable pub name_of : List ℕ → Option (List ℕ)
name_of field = if nat_lt 0 (length field) && list_all is_name_byte field then Some field else None

-- a range, a semicolon and a name, with optional white space around each
unfoldable pub entry_of : Bool → List ℕ → Option Entry
entry_of single bytes = do
  range ← range_of single (trimmed (before_first is_semicolon bytes))
  name ← name_of (trimmed (after_first is_semicolon bytes))
  Some (record { first = range.0; last = range.1; name = name })

-- the entry of a default line, from the text after the first `#`
unfoldable pub default_of : List ℕ → Option Entry
default_of comment =
    let body = trimmed_start comment in
    if starts_with nat_eq body (codes "@missing:")
    then entry_of false (before_first is_hash (drop 9 body))
    else None

-- a comment is a default line, or has no meaning
abbrev pub comment_meaning : Bool → List ℕ → Meaning
comment_meaning true comment = option_map_or default (default_of comment) nothing
comment_meaning false comment = nothing

-- without a trailing carriage return
abbrev pub without_return : List ℕ → List ℕ
without_return line =
    if slice_index line (length line - 1) == 13 then take (length line - 1) line else line

-- The meaning of a line, in a file with or without default lines; None for a line outside the grammar.
unfoldable pub meaning_of : Bool → List ℕ → Option Meaning
meaning_of defaults line =
    let text = without_return line in
    let content = before_first is_hash text in
    if list_all is_space content
    then Some (comment_meaning defaults (after_first is_hash text))
    else option_map row (entry_of true content)
