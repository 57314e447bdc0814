-- Positions whose verdict waits for more text: in the second profile rule 15b looks at the unit after a closing
-- quotation mark.
use Rattle.std.specs.Prelude.{ℕ, Bool, true, false, ◌&&◌, ◌||◌, not, if◌then◌else◌, List, [], ◌∷◌, ◌++◌, length}
use Rattle.std.specs.Prelude.{reverse, Option, Some, None, option_map}
use Rattle.lbk_uax14.specs.declared.cells.Cell.{Cell}
use Rattle.lbk_values.specs.declared.profile.Profile.{Profile}
use Rattle.lbk_values.specs.declared.profile.Profile.TheVariants.{First, Second}
use Rattle.lbk_uax14.specs.declared.verdicts.Rule.{Rule}
use Rattle.lbk_uax14.specs.declared.verdicts.Rule.TheVariants.{Lb15b}
use Rattle.lbk_uax14.specs.declared.verdicts.Verdict.{Verdict}
use Rattle.lbk_uax14.specs.Sides.{Side, closing}
use Rattle.lbk_uax14.specs.Units.{heads}
use Rattle.lbk_uax14.specs.Rules.{Entry, rule_list}
use Rattle.lbk_uax14.specs.Verdict.{verdict_in, verdict_between_in}

abbrev pub is_15b : Rule → Bool
is_15b Lb15b = true
is_15b _ = false

-- the entries before the first one of rule 15b
abbrev pub before_15b : List Entry → List Entry
before_15b [] = []
before_15b (entry ∷ entries) = if is_15b entry.answer.rule then [] else entry ∷ before_15b entries

-- some entry matches
abbrev pub any_matches : List Entry → List Cell → List Cell → Bool
any_matches [] left right = false
any_matches (entry ∷ entries) left right = entry.matches left right || any_matches entries left right

-- The position between these is held: a closing quotation mark comes after it, and no entry before rule 15b
-- matches. In the first profile none is held
unfoldable pub is_held : Profile → List Cell → List Cell → Bool
is_held First left right = false
is_held Second left [] = false
is_held Second left (cell ∷ right) =
    closing cell && not (any_matches (before_15b (rule_list Second)) left (cell ∷ right))

-- the last position of the cells, read outwards, that is held and has no head after its quotation mark
unfoldable pub unanswered_before : Profile → Side → Option ℕ
unanswered_before profile [] = None
unanswered_before profile (cell ∷ side) =
    if is_held profile (reverse side) (cell ∷ [])
    then Some (length side)
    else (if heads side cell then None else unanswered_before profile side)

-- the held position of some cells without a verdict yet, if there is one
abbrev pub unanswered : Profile → List Cell → Option ℕ
unanswered profile cells = unanswered_before profile (reverse cells)

-- its verdict, once `more` follows
abbrev pub answer_at : Profile → List Cell → List Cell → Option (ℕ × Verdict)
answer_at profile cells more =
    option_map (λ p. (p, verdict_in profile (cells ++ more) p)) (unanswered profile cells)

-- the verdict that a cell settles: none, if it heads no unit
abbrev pub late_at : Profile → List Cell → Cell → List Cell → Option (ℕ × Verdict)
late_at profile cells cell more =
    if heads (reverse cells) cell then answer_at profile cells (cell ∷ more) else None

-- the verdict that a position has at its own step: none, if it is held
abbrev pub now_at : Profile → List Cell → List Cell → Option Verdict
now_at profile left right =
    if is_held profile left right then None else Some (verdict_between_in profile left right)
