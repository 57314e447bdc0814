-- A text with a line feed at the end of each line that was broken.
use Rattle.std.specs.Prelude.{ℕ, Bool, nat_lt, List, [], ◌∷◌, ◌++◌, slice_range, if◌then◌else◌}
use Rattle.std.specs.List.{flat_map}
use Rattle.lbk_wrap.specs.declared.open.Line.{Line}
use Rattle.lbk_wrap.specs.declared.open.LineKind.{LineKind}
use Rattle.lbk_wrap.specs.declared.open.LineKind.TheVariants.{May, Must, Cut}

-- what is written of a line that was broken: what shows and a line feed, and nothing if nothing shows; with its blanks
-- if they are kept
abbrev pub broken : List ℕ → Bool → Line → List ℕ
broken text keep line =
    if keep then slice_range text line.start line.next ++ 10 ∷ []
    else if nat_lt line.start line.end then slice_range text line.start line.end ++ 10 ∷ []
    else []

-- a line that must end is written as it is
abbrev pub written_by : List ℕ → Bool → Line → LineKind → List ℕ
written_by text keep line May = broken text keep line
written_by text keep line Must = slice_range text line.start line.next
written_by text keep line Cut = broken text keep line

abbrev pub written : List ℕ → Bool → Line → List ℕ
written text keep line = written_by text keep line line.kind

-- the text of these lines
abbrev pub filled : List ℕ → Bool → List Line → List ℕ
filled text keep lines = flat_map (written text keep) lines
