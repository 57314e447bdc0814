-- The breaks of a text: its positions after the first where a line may or must end (UAX #14, section 3).
use Rattle.std.specs.Prelude.{ℕ, ◌+◌, Bool, true, false, List, [], ◌∷◌, length, encode_utf8, if◌then◌else◌}
use Rattle.lbk_uax14.specs.declared.breaks.Break.{Break}
use Rattle.lbk_uax14.specs.declared.cells.Cell.{Cell}
use Rattle.lbk_uax14.specs.declared.verdicts.Kind.{Kind}
use Rattle.lbk_uax14.specs.declared.verdicts.Kind.TheVariants.{No, May, Must}
use Rattle.lbk_values.specs.declared.profile.Profile.{Profile}
use Rattle.lbk_uax14.specs.declared.verdicts.Verdict.{Verdict}
use Rattle.lbk_uax14.specs.Marks.{Marked, marks}

abbrev pub is_no : Kind → Bool
is_no No = true
is_no May = false
is_no Must = false

-- the break before byte `at` of the text, by the verdict there
abbrev pub break_by : ℕ → Verdict → Break
break_by at verdict = record { at = at; kind = verdict.kind; rule = verdict.rule }

-- the breaks after the scalars of some marks; the first scalar begins at byte `at`
abbrev pub breaks_from : ℕ → List Marked → List Break
breaks_from at [] = []
breaks_from at (m ∷ ms) =
    let end = at + length (encode_utf8 m.scalar) in
    if is_no m.after.kind then breaks_from end ms else break_by end m.after ∷ breaks_from end ms

abbrev pub breaks : Profile → (ℕ → Cell) → List ℕ → List Break
breaks profile cell text = breaks_from 0 (marks profile cell text)
