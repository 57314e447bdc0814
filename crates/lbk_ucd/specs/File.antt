-- The values of code points in a property file, and the first fault of one that is not well-formed. Each line of a file
-- is judged by the lines before it.
use Rattle.std.specs.Prelude.{ℕ, ◌≡◌, ◌+◌, ◌<◌, ◌≤◌, Bool, ◌||◌, ◌==◌, nat_eq, nat_lt, if◌then◌else◌, List, [], ◌∷◌}
use Rattle.std.specs.Prelude.{length, take, drop, Option, Some, None, IsSome, ◌⊎◌, slice_index_or}
use Rattle.std.specs.List.{find, filter_map, list_any, slice_split, starts_with}
use Rattle.std.specs.Option.{option_map}
use Rattle.std.specs.Str.{bytes_eq}
use Rattle.lbk_ucd.specs.declared.ranges.Row.{Row}
use Rattle.lbk_ucd.specs.declared.faults.UcdCause.{UcdCause}
use Rattle.lbk_ucd.specs.declared.faults.UcdCause.TheVariants.{FileTooLong, LineTooLong, RowSyntax, Range}
use Rattle.lbk_ucd.specs.declared.faults.UcdCause.TheVariants.{UnknownValue, Overlap, TooManyRows, Memory}
use Rattle.lbk_ucd.specs.PropertyLine.{Entry, Meaning, nothing, row, default, meaning_of}
use Rattle.lbk_ucd.specs.Rows.{shares, value_at}

-- What differs from one property file to another.
pub record Format (V : Type 0) : Type 0 where
  -- the accepted names, each with its value
  pub names : List (List ℕ × V)
  -- whether rows with other names are skipped instead of refused
  pub others : Bool
  -- whether the file has default lines
  pub defaults : Bool
  -- the value of code points in neither a row nor a default
  pub unlisted : V

-- the value of a name; case matters
abbrev pub named : {V : Type 0} → List (List ℕ × V) → List ℕ → Option V
named names name = option_map (λ entry. entry.1) (find (λ entry. bytes_eq entry.0 name) names)

-- the most bytes of a file
abbrev pub longest_file : ℕ
longest_file = 8388608

abbrev pub byte_order_mark : List ℕ
byte_order_mark = 0xEF ∷ 0xBB ∷ 0xBF ∷ []

-- a file without a leading byte order mark
abbrev pub without_mark : List ℕ → List ℕ
without_mark bytes = if starts_with nat_eq bytes byte_order_mark then drop 3 bytes else bytes

-- the lines of a file, each without its LF
abbrev pub lines_of : List ℕ → List (List ℕ)
lines_of bytes = slice_split (λ byte. byte == 10) (without_mark bytes)

-- whether there is room after so many rows and defaults
abbrev pub cause_of_room : ℕ → Option UcdCause
cause_of_room count = if nat_lt count 65536 then None else Some TooManyRows

module _ {V : Type 0} where
  -- an entry with the value of its name
  abbrev pub valued : Format V → Entry → Option (Row V)
  valued format entry =
      option_map (λ value. record { first = entry.first; last = entry.last; value = value })
      (named format.names entry.name)

  -- the kept row of a line's meaning, if it is one
  abbrev pub row_meant : Format V → Option Meaning → Option (Row V)
  row_meant format (Some (row entry)) = valued format entry
  row_meant format _ = None

  -- the default of a line's meaning, if it is one
  abbrev pub default_meant : Format V → Option Meaning → Option (Row V)
  default_meant format (Some (default entry)) = valued format entry
  default_meant format _ = None

  -- the kept row of a line, and its default
  abbrev pub row_in : Format V → List ℕ → Option (Row V)
  row_in format line = row_meant format (meaning_of format.defaults line)

  abbrev pub default_in : Format V → List ℕ → Option (Row V)
  default_in format line = default_meant format (meaning_of format.defaults line)

  -- those of lines, in order
  abbrev pub rows_in : Format V → List (List ℕ) → List (Row V)
  rows_in format lines = filter_map (row_in format) lines

  abbrev pub defaults_in : Format V → List (List ℕ) → List (Row V)
  defaults_in format lines = filter_map (default_in format) lines

  -- the cause of a row or a default to keep: it must not share a code point with these rows, and there must be room
  -- after so many
  abbrev pub cause_of_kept : List (Row V) → ℕ → ℕ → ℕ → Option UcdCause
  cause_of_kept rows count first last = if list_any (shares first last) rows then Some Overlap else cause_of_room count

  -- that of an entry; its name has a value or not
  abbrev pub cause_of_value : Format V → List (Row V) → ℕ → Entry → Option V → Option UcdCause
  cause_of_value format rows count entry None = if format.others then None else Some UnknownValue
  cause_of_value format rows count entry (Some value) = cause_of_kept rows count entry.first entry.last

  -- that of a row or a default line; if the first code point is above 10FFFF, so is the last, unless the first is above
  -- the last
  unfoldable pub cause_of_entry : Format V → List (Row V) → ℕ → Entry → Option UcdCause
  cause_of_entry format rows count entry =
      if nat_lt entry.last entry.first || nat_lt 0x10FFFF entry.last then Some Range
      else cause_of_value format rows count entry (named format.names entry.name)

  -- the first cause of a line that means this, after these kept rows and so many rows and defaults
  abbrev pub cause_of_meaning : Format V → List (Row V) → ℕ → Option Meaning → Option UcdCause
  cause_of_meaning format rows count None = Some RowSyntax
  cause_of_meaning format rows count (Some nothing) = None
  cause_of_meaning format rows count (Some (row entry)) = cause_of_entry format rows count entry
  cause_of_meaning format rows count (Some (default entry)) = cause_of_entry format [] count entry

  unfoldable pub cause_beside : Format V → List (Row V) → ℕ → List ℕ → Option UcdCause
  cause_beside format rows count line =
      if nat_lt 1024 (length line) then Some LineTooLong
      else cause_of_meaning format rows count (meaning_of format.defaults line)

  -- the first cause that applies to a line after earlier ones
  abbrev pub cause_after : Format V → List (List ℕ) → List ℕ → Option UcdCause
  cause_after format earlier line =
      cause_beside format (rows_in format earlier)
      (length (rows_in format earlier) + length (defaults_in format earlier)) line

  -- the cause of the line at an index, and that none of the lines before an index has one
  abbrev pub cause_at : Format V → List (List ℕ) → ℕ → Option UcdCause
  cause_at format lines index = cause_after format (take index lines) (slice_index_or lines index [])

  abbrev pub IsLawfulBefore : Format V → List (List ℕ) → ℕ → Type 0
  IsLawfulBefore format lines index = (earlier : ℕ) → earlier < index → cause_at format lines earlier ≡ None

  -- a file without a fault
  pub record IsLawful (format : Format V) (bytes : List ℕ) : Type 0 where
    pub short : length bytes ≤ longest_file
    pub lines : IsLawfulBefore format (lines_of bytes) (length (lines_of bytes))

  -- the first line with a cause has this number, from 1, and this cause
  pub record IsLineFault (format : Format V) (bytes : List ℕ) (number : ℕ) (cause : UcdCause) : Type 0 where
    pub short : length bytes ≤ longest_file
    pub index : ℕ
    pub within : index < length (lines_of bytes)
    pub counted : number ≡ index + 1
    pub here : cause_at format (lines_of bytes) index ≡ Some cause
    pub before : IsLawfulBefore format (lines_of bytes) index

  -- the file's fault
  abbrev pub IsFault : Format V → List ℕ → ℕ → UcdCause → Type 0
  IsFault format bytes number cause =
      ((longest_file < length bytes) × (number ≡ 0) × (cause ≡ FileTooLong)) ⊎ IsLineFault format bytes number cause

  -- a line with a row or a default, and no line up to it has a cause: the tables grow there
  pub record IsGrowth (format : Format V) (bytes : List ℕ) (number : ℕ) : Type 0 where
    pub short : length bytes ≤ longest_file
    pub index : ℕ
    pub within : index < length (lines_of bytes)
    pub counted : number ≡ index + 1
    pub gives : IsSome (row_in format (slice_index_or (lines_of bytes) index []))
        ⊎ IsSome (default_in format (slice_index_or (lines_of bytes) index []))
    pub before : IsLawfulBefore format (lines_of bytes) (index + 1)

  -- The value of a code point: that of the row that has it, else that of the last default that has it, else that of
  -- unlisted code points.
  unfoldable pub property_of : Format V → List ℕ → ℕ → V
  property_of format bytes code =
      value_at (rows_in format (lines_of bytes)) (defaults_in format (lines_of bytes)) format.unlisted code

  -- a file is refused at a line by its fault, or because memory runs out where the tables grow
  abbrev pub IsRefusal : Format V → List ℕ → ℕ → UcdCause → Type 0
  IsRefusal format bytes number cause =
      IsFault format bytes number cause ⊎ ((cause ≡ Memory) × IsGrowth format bytes number)
