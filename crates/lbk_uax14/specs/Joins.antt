-- Texts that are decided in parts: the verdicts of the whole are those of each part as a separate text, joined. The
-- bytes before a part are added to its offsets, and the end of a part that another follows is by rule 4 or 5 instead of
-- 3 (UAX #14, section 6.1, rules LB3 to LB5).
use Rattle.std.specs.Prelude.{◌≡◌, ℕ, ◌+◌, Bool, true, false, List, [], ◌∷◌, ◌++◌, length, map, encode_utf8_all}
use Rattle.std.specs.Prelude.{if◌then◌else◌}
use Rattle.lbk_uax14.specs.declared.breaks.Break.{Break}
use Rattle.lbk_uax14.specs.declared.cells.Cell.{Cell}
use Rattle.lbk_uax14.specs.declared.verdicts.Rule.{Rule}
use Rattle.lbk_uax14.specs.declared.verdicts.Verdict.{Verdict}
use Rattle.lbk_values.specs.declared.profile.Profile.{Profile}
use Rattle.lbk_uax14.specs.Breaks.{breaks}
use Rattle.lbk_uax14.specs.Ends.{end_after, end_of_text, ends_between}
use Rattle.lbk_uax14.specs.Marks.{Marked, ended, marks}

-- a line must end between two texts, by the classes of the last scalar of the first one and of the first scalar of the
-- second one
abbrev pub must_end_between : (ℕ → Cell) → List ℕ → List ℕ → Bool
must_end_between cell [] second = false
must_end_between cell (c ∷ []) [] = false
must_end_between cell (c ∷ []) (d ∷ ds) = ends_between (cell c).class (cell d).class
must_end_between cell (c ∷ e ∷ es) second = must_end_between cell (e ∷ es) second

-- the parts of a text, with a required break between each two
abbrev pub AreParts : (ℕ → Cell) → List (List ℕ) → Type 0
AreParts cell [] = Unit {0}
AreParts cell (part ∷ []) = Unit {0}
AreParts cell (part ∷ next ∷ parts) = (must_end_between cell part next ≡ true) × AreParts cell (next ∷ parts)

-- statements about parts, joined: `say at follows part` is about a part that begins at byte `at` of the text; `follows`
-- says whether another part follows. The first part begins at byte `at`
abbrev pub of_parts : {X : Type 0} → (ℕ → Bool → List ℕ → List X) → ℕ → List (List ℕ) → List X
of_parts say at [] = []
of_parts say at (part ∷ []) = say at false part
of_parts say at (part ∷ next ∷ parts) =
    say at true part ++ of_parts say (at + length (encode_utf8_all part)) (next ∷ parts)

-- the verdict at the end of a text that another follows, with a required break between them
abbrev pub end_before_more : (ℕ → Cell) → List ℕ → Verdict
end_before_more cell [] = end_of_text
end_before_more cell (c ∷ []) = end_after (cell c).class
end_before_more cell (c ∷ d ∷ ds) = end_before_more cell (d ∷ ds)

-- a list with its last element changed
abbrev pub with_last : {A : Type 0} → (A → A) → List A → List A
with_last change [] = []
with_last change (x ∷ []) = change x ∷ []
with_last change (x ∷ y ∷ xs) = x ∷ with_last change (y ∷ xs)

-- the marks of a part
abbrev pub marks_in : Profile → (ℕ → Cell) → Bool → List ℕ → List Marked
marks_in profile cell follows part =
    if follows then ended (end_before_more cell part) (marks profile cell part) else marks profile cell part

-- a break so many bytes later · by another rule
abbrev pub moved : ℕ → Break → Break
moved bytes b = record { at = bytes + b.at; kind = b.kind; rule = b.rule }

abbrev pub by_rule : Rule → Break → Break
by_rule rule b = record { at = b.at; kind = b.kind; rule = rule }

-- the breaks of a part as a separate text; if another part follows, the last one is by the rule that it then has
abbrev pub breaks_before : Profile → (ℕ → Cell) → Bool → List ℕ → List Break
breaks_before profile cell follows part =
    if follows then with_last (by_rule (end_before_more cell part).rule) (breaks profile cell part)
    else breaks profile cell part

-- and at their offsets in the text
abbrev pub breaks_in : Profile → (ℕ → Cell) → ℕ → Bool → List ℕ → List Break
breaks_in profile cell at follows part = map (moved at) (breaks_before profile cell follows part)
