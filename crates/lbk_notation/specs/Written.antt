-- The written line: marks and scalars, separated by one space, without other white space, each scalar as its only
-- token.
use Rattle.std.specs.Prelude.{◌≡◌, ℕ, ◌/◌, ◌%◌, ltb, if◌then◌else◌, List, [], ◌∷◌, ◌++◌, map, Result, OnOk, OnErr}
use Rattle.lbk_notation.specs.declared.marks.Form.{Form}
use Rattle.lbk_notation.specs.declared.marks.Form.TheVariants.{Plain}
use Rattle.lbk_notation.specs.declared.marks.Mark.{Mark}
use Rattle.lbk_notation.specs.declared.marks.Mark.TheVariants.{May, Must}
use Rattle.lbk_notation.specs.Grammar.{mark_bytes, token_bytes}
use Rattle.lbk_notation.specs.TestLine.{Line}

-- form Plain has ÷ for every break
abbrev pub shown : Form → Mark → Mark
shown Plain Must = May
shown form mark = mark

-- the meaning of a written line: the line itself in Kinds, and in Plain the line with every Must as a May
abbrev pub shown_line : Form → Line → Line
shown_line form line = record { scalars = line.scalars; marks = map (shown form) line.marks }

-- the fewest hex digits of a scalar that are four or more
abbrev pub digits_of : ℕ → List ℕ
digits_of scalar =
    if ltb scalar 0x10000 then scalar / 4096 ∷ scalar / 256 % 16 ∷ scalar / 16 % 16 ∷ scalar % 16 ∷ []
    else (if ltb scalar 0x100000
    then scalar / 65536 ∷ scalar / 4096 % 16 ∷ scalar / 256 % 16 ∷ scalar / 16 % 16 ∷ scalar % 16 ∷ []
    else scalar / 1048576 ∷ scalar / 65536 % 16 ∷ scalar / 4096 % 16 ∷ scalar / 256 % 16 ∷ scalar / 16 % 16
    ∷ scalar % 16 ∷ [])

abbrev pub token : ℕ → List ℕ
token scalar = token_bytes (digits_of scalar)

-- the text after a mark: for each scalar a space, its token, a space and the mark after it
abbrev pub written_after : Form → List ℕ → List Mark → List ℕ
written_after form (scalar ∷ scalars) (mark ∷ marks) =
    32 ∷ (token scalar ++ (32 ∷ (mark_bytes (shown form mark) ++ written_after form scalars marks)))
written_after form scalars marks = []

abbrev pub written_marks : Form → List ℕ → List Mark → List ℕ
written_marks form scalars [] = []
written_marks form scalars (mark ∷ marks) = mark_bytes (shown form mark) ++ written_after form scalars marks

abbrev pub written_line : Form → Line → List ℕ
written_line form line = written_marks form line.scalars line.marks

-- these bytes are appended, or none of them after an error
pub record AppendsAll {X Y : Type 0} (old new bytes : List ℕ) (result : Result X Y) : Type 0 where
  pub text : OnOk result (new ≡ old ++ bytes)
  pub refused : OnErr result (new ≡ old)
