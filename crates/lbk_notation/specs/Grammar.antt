-- The grammar of a line, as a relation between its bytes and their meaning, without a limit of length:
--     ws* [ mark (ws+ hex ws+ mark)* ws* ] [ # any bytes but LF ]
-- A carriage return as the very last byte may replace the comment. A line without marks, blank or a comment, has no
-- meaning.
use Rattle.std.specs.Prelude.{◌≡◌, ◌≢◌, ℕ, ◌+◌, ◌*◌, ◌<◌, ltb, if◌then◌else◌, IsTrue, List, [], ◌∷◌}
use Rattle.std.specs.Prelude.{◌++◌, map, Option, Some, None, ◌⊎◌}
use Rattle.std.specs.List.{AllByRecursion}
pub use Rattle.lbk_ucd.specs.Grammar.{IsBlank}
pub use Rattle.lbk_ucd.specs.PropertyLine.{is_space}
use Rattle.lbk_notation.specs.declared.marks.Form.{Form}
use Rattle.lbk_notation.specs.declared.marks.Form.TheVariants.{Plain, Kinds}
use Rattle.lbk_notation.specs.declared.marks.Mark.{Mark}
use Rattle.lbk_notation.specs.declared.marks.Mark.TheVariants.{No, May, Must}
use Rattle.lbk_notation.specs.TestLine.{Line}

-- ws+
abbrev pub IsGap : List ℕ → Type 0
IsGap [] = ⊥
IsGap (byte ∷ bytes) = IsTrue (is_space byte) × IsBlank bytes

-- × is C3 97, ÷ is C3 B7
abbrev pub mark_bytes : Mark → List ℕ
mark_bytes No = 0xC3 ∷ 0x97 ∷ []
mark_bytes May = 0xC3 ∷ 0xB7 ∷ []
mark_bytes Must = 33 ∷ []

abbrev pub IsKinds : Form → Type 0
IsKinds Kinds = Unit {0}
IsKinds Plain = ⊥

-- the marks of a form: ! only in form Kinds
abbrev pub Has : Form → Mark → Type 0
Has form Must = IsKinds form
Has form mark = Unit {0}

-- the upper-case hex digit of a value: 0 to 9, A to F
abbrev pub digit_byte : ℕ → ℕ
digit_byte digit = if ltb digit 10 then 48 + digit else 55 + digit

abbrev pub token_bytes : List ℕ → List ℕ
token_bytes digits = map digit_byte digits

-- the number that digits spell, after the digits of a number
abbrev pub number_behind : ℕ → List ℕ → ℕ
number_behind number [] = number
number_behind number (digit ∷ digits) = number_behind (16 * number + digit) digits

abbrev pub number_of : List ℕ → ℕ
number_of [] = 0
number_of (digit ∷ digits) = number_behind digit digits

-- four digits that aren't D800 to DFFF, or five whose first isn't 0, or six that begin with 1 and 0
abbrev pub HasShape : List ℕ → Type 0
HasShape (a ∷ b ∷ c ∷ d ∷ []) = (number_of (a ∷ b ∷ c ∷ d ∷ []) < 0xD800) ⊎ (0xDFFF < number_of (a ∷ b ∷ c ∷ d ∷ []))
HasShape (a ∷ b ∷ c ∷ d ∷ e ∷ []) = a ≢ 0
HasShape (a ∷ b ∷ c ∷ d ∷ e ∷ f ∷ []) = (a ≡ 1) × (b ≡ 0)
HasShape digits = ⊥

pub record IsToken (digits : List ℕ) : Type 0 where
  pub each : AllByRecursion (λ digit. digit < 16) digits
  pub shape : HasShape digits

-- what ends a line: nothing, a carriage return as the very last byte, or # and any bytes but LF
abbrev pub IsEnd : List ℕ → Type 0
IsEnd [] = Unit {0}
IsEnd (byte ∷ bytes) = ((byte ≡ 13) × (bytes ≡ [])) ⊎ ((byte ≡ 35) × AllByRecursion (λ other. other ≢ 10) bytes)

-- what may follow a mark: (ws+ hex ws+ mark)* ws* and the end of the line
pub data IsAfter (form : Form) : List ℕ → List Mark → List ℕ → Type 0 where
  last : (blank end : List ℕ) → IsBlank blank → IsEnd end → IsAfter form [] [] (blank ++ end)
  more : (gap digits gap' : List ℕ) (mark : Mark) (rest scalars : List ℕ) (marks : List Mark)
      → IsGap gap → IsToken digits
      → IsGap gap' → Has form mark → IsAfter form scalars marks rest
      → IsAfter form (number_of digits ∷ scalars) (mark ∷ marks)
      (gap ++ (token_bytes digits ++ (gap' ++ (mark_bytes mark ++ rest))))

-- a line, with its meaning: ws* and its end, or ws*, a mark and what may follow it
pub data IsLine (form : Form) : List ℕ → Option Line → Type 0 where
  no_line : (blank end : List ℕ) → IsBlank blank → IsEnd end → IsLine form (blank ++ end) None
  line : (blank : List ℕ) (mark : Mark) (rest scalars : List ℕ) (marks : List Mark) → IsBlank blank → Has form mark
      → IsAfter form scalars marks rest
      → IsLine form (blank ++ (mark_bytes mark ++ rest)) (Some (record { scalars = scalars; marks = mark ∷ marks }))
