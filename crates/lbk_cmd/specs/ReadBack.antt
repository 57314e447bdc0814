-- The lines of passages, read one after another.
use Rattle.std.specs.Prelude.{◌≡◌, ℕ, ◌≤◌, List, length, map, Option, IfSome}
use Rattle.std.specs.Char.{IsScalar}
use Rattle.std.specs.List.{AllByRecursion, flat_map}
use Rattle.lbk_feed.specs.Text.{greatest_limit}
use Rattle.lbk_passage.specs.Marks.{Marked, scalars_of, text_of}
use Rattle.lbk_notation.specs.TestLine.{Line}
use Rattle.lbk_notation.specs.Shown.{passage_line}
use Rattle.lbk_cmd.specs.Broken.{said}
use Rattle.lbk_cmd.specs.Run.{Engine, IsWhole, by_passage}
use Rattle.lbk_cmd.specs.Show.{shown_passage, verdicts_of}

-- the text is the output for all that was read
pub record IsShown (e : Engine) (unread : Option (List ℕ)) (text : List ℕ) : Type 0 where
  pub bytes : List ℕ
  pub read : IfSome unread (λ input. bytes ≡ input)
  pub whole : IsWhole (by_passage e) bytes text

-- the line of a passage without its line end
abbrev pub line_of : List Marked → List ℕ
line_of ms = passage_line (scalars_of ms) (verdicts_of ms)

-- its line is read back
pub record IsReadable (ms : List Marked) : Type 0 where
  pub scalars : AllByRecursion (λ scalar. IsScalar scalar) (scalars_of ms)
  pub few : length (text_of ms) ≤ greatest_limit

-- the text is the lines of the passages
pub record AreShown (text : List ℕ) (passages : List (List Marked)) : Type 0 where
  pub lines : text ≡ flat_map shown_passage passages
  pub readable : AllByRecursion IsReadable passages

abbrev pub AreReadable : List ℕ → Type 0
AreReadable text = (passages : List (List Marked)) × AreShown text passages

-- the meaning of the lines of the text
abbrev pub Say : List ℕ → List Line → Type 0
Say text lines = (passages : List (List Marked)) → AreShown text passages → lines ≡ map said passages

-- the meaning of one line
abbrev pub SayOf : List ℕ → Line → Type 0
SayOf line read = (ms : List Marked) → line ≡ line_of ms → IsReadable ms → read ≡ said ms
