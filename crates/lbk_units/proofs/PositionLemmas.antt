-- The breaks and the positions of a text from its start on, and the last of them.
use Rattle.std.proofs.Common.{Bool, true, false, not, ◌≡◌, ℕ, ◌+◌, ◌-◌, ◌<◌, List, [], ◌∷◌, ◌++◌, length, map, take, append-nil, append_assoc, refl, sym, ap, subst, ◌∙◌, arith}
use Rattle.std.proofs.lemmas.List.{length-map}
use Rattle.std.proofs.Math.Seq.{drop-length, take-length}
use Rattle.bstr.specs.Utf8.{Decoded, or_replacement}
use Rattle.lbk_rules.specs.declared.Break.{Break}
use Rattle.lbk_rules.specs.declared.Cell.{Cell}
use Rattle.lbk_rules.specs.declared.Verdict.{Verdict}
use Rattle.lbk_values.specs.declared.profile.Profile.{Profile}
use Rattle.lbk_rules.specs.Breaks.{break_by}
use Rattle.lbk_rules.specs.Ends.{end_of_text}
use Rattle.lbk_rules.specs.Joins.{moved}
use Rattle.lbk_rules.specs.Marks.{marks_behind}
use Rattle.lbk_rules.specs.Verdict.{verdict_between_in}
use Rattle.lbk_rules.proofs.EndLemmas.{must_at_length, start_of_text}
use Rattle.lbk_rules.specs.FlatTable.{KnowsTaken}
use Rattle.lbk_rules.specs.Rows.{verdict_shown}
use Rattle.lbk_bytes.specs.Bytes.{AtEnd, end_in, open_end}
use Rattle.lbk_bytes.specs.Reached.{last_position, onward_all, onward_to, position_end_in, scalars_of}
use Rattle.lbk_bytes.proofs.EndLemmas.{none-known}
use Rattle.lbk_bytes.proofs.PartLemmas.{end-moved, pieces-onward, without-last}
use Rattle.lbk_units.specs.Positions.{positions_after, positions_of_part_of, positions_of_pieces}
use Rattle.lbk_units.specs.Units.{breaks_of_part_of, units_of}
use Rattle.lbk_units.proofs.UnitLemmas.{units-sizes}
use Rattle.lbk_bytes.specs.declared.ends.TheConstants.{END, START}

all-marks : (profile : Profile) (cell : ℕ → Cell) (before : List ℕ) (at : ℕ) (p : Decoded) (ps : List Decoded)
    → positions_after at (p ∷ ps) (marks_behind profile cell before (scalars_of (p ∷ ps))) ≡ onward_all last_position profile cell (before ++ or_replacement p.char ∷ []) (at + p.size) ps
all-marks profile cell before at p [] = refl
all-marks profile cell before at p (q ∷ qs) =
    let on = before ++ or_replacement p.char ∷ [] in
    let next = at + p.size in
    ap (λ l. break_by next (verdict_between_in profile (map cell on) (map cell (scalars_of (q ∷ qs)))) ∷ l) (all-marks profile cell on next q qs)

pub all-start : (profile : Profile) (cell : ℕ → Cell) (ps : List Decoded) → positions_of_pieces profile cell ps ≡ onward_all last_position profile cell [] 0 ps
all-start profile cell [] = refl
all-start profile cell (p ∷ ps) =
    ap (λ l. break_by 0 (verdict_between_in profile [] (map cell (scalars_of (p ∷ ps)))) ∷ l) (all-marks profile cell [] 0 p ps)

position_end-moved : (goes : Bool) (profile : Profile) (cell : ℕ → Cell) (taken : List ℕ) (by at : ℕ)
    → map (moved by) (position_end_in goes profile cell taken at) ≡ position_end_in goes profile cell taken (by + at)
position_end-moved false profile cell taken by at = refl
position_end-moved true profile cell taken by at = end-moved true profile cell taken by at

all-moved : (goes : Bool) (profile : Profile) (cell : ℕ → Cell) (taken : List ℕ) (by at : ℕ) (ps : List Decoded)
    → map (moved by) (onward_all (position_end_in goes) profile cell taken at ps) ≡ onward_all (position_end_in goes) profile cell taken (by + at) ps
all-moved goes profile cell taken by at [] = position_end-moved goes profile cell taken by at
all-moved goes profile cell taken by at (p ∷ ps) =
    let place : by + (at + p.size) ≡ by + at + p.size = omega arith in
    let on = taken ++ or_replacement p.char ∷ [] in
    ap (λ l. break_by (by + at) (verdict_between_in profile (map cell taken) (map cell (scalars_of (p ∷ ps)))) ∷ l)
    (all-moved goes profile cell on by (at + p.size) ps ∙ ap (λ n. onward_all (position_end_in goes) profile cell on n ps) place)

-- the positions before some pieces
abbrev before-pieces : Profile → (ℕ → Cell) → List ℕ → ℕ → List Decoded → List Break
before-pieces profile cell before at [] = []
before-pieces profile cell before at (p ∷ ps) =
    break_by at (verdict_between_in profile (map cell before) (map cell (scalars_of (p ∷ ps))))
    ∷ before-pieces profile cell (before ++ or_replacement p.char ∷ []) (at + p.size) ps

-- and what comes at the end
all-ends : (end : AtEnd) (profile : Profile) (cell : ℕ → Cell) (before : List ℕ) (at : ℕ) (ps : List Decoded)
    → onward_all end profile cell before at ps ≡ before-pieces profile cell before at ps ++ end profile cell (before ++ scalars_of ps) (at + units_of ps)
all-ends end profile cell before at [] =
    let here : at ≡ at + 0 = omega arith in
    ap (λ n. end profile cell before n) here ∙ ap (λ l. end profile cell l (at + 0)) (sym (append-nil before))
all-ends end profile cell before at (p ∷ ps) =
    let on = before ++ or_replacement p.char ∷ [] in
    let first = break_by at (verdict_between_in profile (map cell before) (map cell (scalars_of (p ∷ ps)))) in
    let front = before-pieces profile cell on (at + p.size) ps in
    let place : at + p.size + units_of ps ≡ at + (p.size + units_of ps) = omega arith in
    ap (λ l. first ∷ l) (all-ends end profile cell on (at + p.size) ps)
    ∙ ap (λ n. first ∷ (front ++ end profile cell (on ++ scalars_of ps) n)) place
    ∙ ap (λ l. first ∷ (front ++ end profile cell l (at + (p.size + units_of ps)))) (append_assoc before (or_replacement p.char ∷ []) (scalars_of ps))

part-start : (goes : Bool) (profile : Profile) (cell : ℕ → Cell) (ps : List Decoded)
    → positions_of_part_of goes profile cell ps ≡ onward_all (position_end_in goes) profile cell [] 0 ps
part-start false profile cell ps = all-start profile cell ps
part-start true profile cell ps =
    let front = before-pieces profile cell [] 0 ps in
    let last = break_by (0 + units_of ps) (verdict_between_in profile (map cell (scalars_of ps)) []) in
    let place : units_of ps ≡ 0 + units_of ps = omega arith in
    let opened = open_end profile cell (scalars_of ps) in
    ap (λ l. take (length l - 1) l ++ opened (units_of ps)) (all-start profile cell ps ∙ all-ends last_position profile cell [] 0 ps)
    ∙ ap (λ l. l ++ opened (units_of ps)) (without-last front last)
    ∙ ap (λ n. front ++ opened n) place
    ∙ sym (all-ends open_end profile cell [] 0 ps)

-- the positions of a part, at their places in the text
pub all-part : (goes : Bool) (profile : Profile) (cell : ℕ → Cell) (at : ℕ) (ps : List Decoded)
    → map (moved at) (positions_of_part_of goes profile cell ps) ≡ onward_all (position_end_in goes) profile cell [] at ps
all-part goes profile cell at ps =
    let place : at + 0 ≡ at = omega arith in
    ap (map (moved at)) (part-start goes profile cell ps) ∙ all-moved goes profile cell [] at 0 ps
    ∙ ap (λ n. onward_all (position_end_in goes) profile cell [] n ps) place

-- the breaks of a part, at their places in the text
pub pieces-part : (goes : Bool) (profile : Profile) (cell : ℕ → Cell) (at : ℕ) (ps : List Decoded)
    → map (moved at) (breaks_of_part_of goes profile cell ps) ≡ onward_to (end_in goes) profile cell [] at ps
pieces-part goes profile cell at ps = pieces-onward goes profile cell at ps (units_of ps) (units-sizes ps)

-- at the end of an empty text
pub put-start : (profile : Profile) (cell : ℕ → Cell) (taken : List ℕ) (given after : List Break) (at row shown : ℕ)
    → KnowsTaken cell row taken → row ≡ 0 → shown ≡ START
    → after ≡ given ++ break_by at (verdict_shown shown) ∷ [] → after ≡ given ++ last_position profile cell taken at
unfolding verdict_shown
put-start profile cell taken given after at row shown knows first is front =
    front
    ∙ ap (λ n. given ++ break_by at (verdict_shown n) ∷ []) is
    ∙ ap (λ (v : Verdict). given ++ break_by at v ∷ []) (sym (start_of_text profile []))
    ∙ ap (λ l. given ++ break_by at (verdict_between_in profile (map cell l) []) ∷ [])
    (sym (none-known cell taken (subst (λ n. KnowsTaken cell n taken) first knows)))

-- and of any other
pub put-end : (profile : Profile) (cell : ℕ → Cell) (given after : List Break) (at shown : ℕ) (taken : List ℕ) → 0 < length taken → shown ≡ END
    → after ≡ given ++ break_by at (verdict_shown shown) ∷ [] → after ≡ given ++ last_position profile cell taken at
unfolding verdict_shown
put-end profile cell given after at shown taken more is front =
    let cells = map cell taken in
    let some : 0 < length cells = omega (arith, length-map taken cell) in
    let must : verdict_between_in profile cells [] ≡ end_of_text =
    ap (λ l. verdict_between_in profile l []) (sym (take-length cells))
    ∙ ap (λ l. verdict_between_in profile (take (length cells) cells) l) (sym (drop-length cells))
    ∙ must_at_length profile cells some in
    front
    ∙ ap (λ n. given ++ break_by at (verdict_shown n) ∷ []) is
    ∙ ap (λ (v : Verdict). given ++ break_by at v ∷ []) (sym must)

-- what is not so is the other
pub not-back : (b other : Bool) → not b ≡ not other → b ≡ other
not-back true true same = refl
not-back false false same = refl
not-back true false same = sym same
not-back false true same = sym same
