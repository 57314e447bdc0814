-- The lines of a test file.
use Rattle.std.specs.Prelude.{◌≢◌, ℕ, ◌==◌, if◌then◌else◌, List, [], ◌∷◌, ◌++◌}
use Rattle.std.specs.List.{AllByRecursion}
use Rattle.lbk_feed.specs.Text.{longest_text}
pub use Rattle.lbk_ucd.specs.File.{byte_order_mark, without_mark}

-- the most bytes of a replayed file: as many as of a text
abbrev pub longest_stream : ℕ
longest_stream = longest_text

-- the lines that an LF ends, each without it, and the text after the last LF
pub record Cut : Type 0 where
  pub lines : List (List ℕ)
  pub rest : List ℕ

abbrev pub nothing_cut : Cut
nothing_cut = record { lines = []; rest = [] }

-- one more byte
abbrev pub then_byte : Cut → ℕ → Cut
then_byte cut byte =
    if byte == 10
    then record { lines = cut.lines ++ cut.rest ∷ []; rest = [] }
    else record { lines = cut.lines; rest = cut.rest ++ byte ∷ [] }

abbrev pub cut_on : Cut → List ℕ → Cut
cut_on cut [] = cut
cut_on cut (byte ∷ bytes) = cut_on (then_byte cut byte) bytes

unfoldable pub cut_of : List ℕ → Cut
cut_of bytes = cut_on nothing_cut (without_mark bytes)

-- the lines whose line end is among the bytes
abbrev pub ended_lines : List ℕ → List (List ℕ)
ended_lines bytes = (cut_of bytes).lines

-- the text after the last LF is a line, unless it is empty
abbrev pub last_line : List ℕ → List (List ℕ)
last_line [] = []
last_line (byte ∷ bytes) = (byte ∷ bytes) ∷ []

-- the lines of a file of exactly these bytes
abbrev pub lines_of : List ℕ → List (List ℕ)
lines_of bytes = (cut_of bytes).lines ++ last_line (cut_of bytes).rest

-- lines, each with the LF that ends it
abbrev pub with_line_ends : List (List ℕ) → List ℕ
with_line_ends [] = []
with_line_ends (line ∷ lines) = line ++ (10 ∷ with_line_ends lines)

abbrev pub HasNoLineEnd : List ℕ → Type 0
HasNoLineEnd bytes = AllByRecursion (λ byte. byte ≢ 10) bytes
