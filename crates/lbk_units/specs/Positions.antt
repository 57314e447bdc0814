-- The positions of any units, read as their breaks are: one before the first piece, and one after each, with what the
-- rules say there (UAX #14, section 6). An empty text has one, too.
use Rattle.std.specs.Prelude.{ℕ, ◌+◌, Bool, List, [], ◌∷◌, map, not}
use Rattle.std.specs.List.{filter}
use Rattle.bstr.specs.Utf8.{Decoded, pieces}
use Rattle.lbk_rules.specs.declared.Break.{Break}
use Rattle.lbk_rules.specs.declared.Cell.{Cell}
use Rattle.lbk_values.specs.declared.profile.Profile.{Profile}
use Rattle.lbk_rules.specs.Breaks.{break_by, is_no}
use Rattle.lbk_rules.specs.Marks.{Marked, marks}
use Rattle.lbk_rules.specs.Verdict.{verdict_between_in}
use Rattle.lbk_bytes.specs.Bytes.{of_part, open_end}
use Rattle.lbk_bytes.specs.Reached.{scalars_of}
use Rattle.lbk_units.specs.Units.{pieces_of_utf16, pieces_of_utf32, units_of}

-- the positions after some pieces, the first of which begins at unit `at`, by the marks of the scalars that they are
-- read as
abbrev pub positions_after : ℕ → List Decoded → List Marked → List Break
positions_after at [] ms = []
positions_after at (p ∷ ps) [] = []
positions_after at (p ∷ ps) (m ∷ ms) = break_by (at + p.size) m.after ∷ positions_after (at + p.size) ps ms

abbrev pub positions_of_pieces : Profile → (ℕ → Cell) → List Decoded → List Break
positions_of_pieces profile cell ps =
    break_by 0 (verdict_between_in profile [] (map cell (scalars_of ps)))
    ∷ positions_after 0 ps (marks profile cell (scalars_of ps))

-- the positions of a part of a text by itself, which has these pieces. Where the text goes on after it, the last of
-- them is as it is there, if a line must end there whatever follows; else it is none
abbrev pub positions_of_part_of : Bool → Profile → (ℕ → Cell) → List Decoded → List Break
positions_of_part_of goes_on profile cell ps =
    of_part goes_on (positions_of_pieces profile cell ps) (open_end profile cell (scalars_of ps) (units_of ps))

abbrev pub positions_of_bytes : Profile → (ℕ → Cell) → List ℕ → List Break
positions_of_bytes profile cell text = positions_of_pieces profile cell (pieces text)

abbrev pub positions_of_utf16 : Profile → (ℕ → Cell) → List ℕ → List Break
positions_of_utf16 profile cell units = positions_of_pieces profile cell (pieces_of_utf16 units)

abbrev pub positions_of_utf32 : Profile → (ℕ → Cell) → List ℕ → List Break
positions_of_utf32 profile cell units = positions_of_pieces profile cell (pieces_of_utf32 units)

-- of some positions those where a line may or must end
abbrev pub breaks_among : List Break → List Break
breaks_among positions = filter (λ position. not (is_no position.kind)) positions
