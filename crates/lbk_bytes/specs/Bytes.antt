-- The breaks of any bytes, read as UTF-8. Each longest piece that begins no scalar is read as U+FFFD (Unicode Standard,
-- section 3.9, table 3-7) and keeps its own bytes.
use Rattle.std.specs.Prelude.{ℕ, ◌+◌, ◌-◌, Bool, true, false, List, [], ◌∷◌, ◌++◌, length, map, take, if◌then◌else◌}
use Rattle.bstr.specs.Utf8.{Decoded, lossy_chars, pieces}
use Rattle.lbk_rules.specs.declared.Break.{Break}
use Rattle.lbk_rules.specs.declared.Cell.{Cell}
use Rattle.lbk_values.specs.declared.profile.Profile.{Profile}
use Rattle.lbk_rules.specs.declared.Verdict.{Verdict}
use Rattle.lbk_rules.specs.Breaks.{break_by, is_no}
use Rattle.lbk_rules.specs.Ends.{end_after, ends_line}
use Rattle.lbk_rules.specs.Marks.{Marked, marks}
use Rattle.lbk_rules.specs.Verdict.{verdict_between_in}

-- the break at a position, if there is one, and those that follow
abbrev pub with_break : ℕ → Verdict → List Break → List Break
with_break at verdict more = if is_no verdict.kind then more else break_by at verdict ∷ more

-- the breaks after some pieces, the first of which begins at byte `at`, by the marks of the scalars that they are
-- read as
abbrev pub breaks_after : ℕ → List Decoded → List Marked → List Break
breaks_after at [] ms = []
breaks_after at (p ∷ ps) [] = []
breaks_after at (p ∷ ps) (m ∷ ms) = with_break (at + p.size) m.after (breaks_after (at + p.size) ps ms)

abbrev pub breaks_of_bytes : Profile → (ℕ → Cell) → List ℕ → List Break
breaks_of_bytes profile cell text = breaks_after 0 (pieces text) (marks profile cell (lossy_chars text))

-- what comes at this byte, at the end of a text or of a part of one, behind its scalars
abbrev pub AtEnd : Type 0
AtEnd = Profile → (ℕ → Cell) → List ℕ → ℕ → List Break

-- where nothing follows: what the rules say at the end of a text (rule LB3)
abbrev pub closed_end : AtEnd
closed_end profile cell scalars at = with_break at (verdict_between_in profile (map cell scalars) []) []

-- where the text goes on: that a line must end there, where it must whatever follows but LF after CR (rules LB4 and
-- LB5)
abbrev pub open_end : AtEnd
open_end profile cell [] at = []
open_end profile cell (c ∷ []) at = if ends_line (cell c).class then break_by at (end_after (cell c).class) ∷ [] else []
open_end profile cell (c ∷ d ∷ ds) at = open_end profile cell (d ∷ ds) at

abbrev pub end_in : Bool → AtEnd
end_in true = open_end
end_in false = closed_end

-- of a part of a text these by itself: where the text goes on after it, all but the last, and what comes there at the
-- end
abbrev pub of_part : Bool → List Break → List Break → List Break
of_part false alone at_end = alone
of_part true alone at_end = take (length alone - 1) alone ++ at_end

-- the breaks of a part of a text by itself. Where the text goes on after it, the last of them is as it is there
abbrev pub breaks_of_part : Bool → Profile → (ℕ → Cell) → List ℕ → List Break
breaks_of_part goes_on profile cell part =
    of_part goes_on (breaks_of_bytes profile cell part) (open_end profile cell (lossy_chars part) (length part))
