-- Where breaks stand that are still to come.
use Rattle.std.proofs.Common.{◌≡◌, ℕ, ◌+◌, ◌<◌, ◌≤◌, ◌||◌, Bool, true, false, cond, List, [], ◌∷◌, ◌++◌, leb, map, refl, ap, ap₂, ◌∙◌, arith}
use Rattle.std.proofs.lemmas.Bool.{cond-false, cond-true, le-leb, lt-leb, ne_eqb}
use Rattle.bstr.specs.Utf8.{Decoded, or_replacement}
use Rattle.lbk_rules.specs.declared.Break.{Break}
use Rattle.lbk_rules.specs.declared.Cell.{Cell}
use Rattle.lbk_rules.specs.declared.Verdict.{Verdict}
use Rattle.lbk_values.specs.declared.profile.Profile.{Profile}
use Rattle.lbk_rules.specs.Breaks.{break_by, is_no}
use Rattle.lbk_rules.specs.Ends.{end_after, ends_line}
use Rattle.lbk_rules.specs.Verdict.{verdict_between_in}
use Rattle.lbk_bytes.specs.Bytes.{end_in, with_break}
use Rattle.lbk_bytes.specs.Marking.{AreBelow, AreFrom}
use Rattle.lbk_bytes.specs.Marks.{from_on, stands_among}
use Rattle.lbk_bytes.specs.Reached.{onward_to, scalars_of}
use Rattle.lbk_bytes.proofs.MarkLemmas.{break-below}

pub from-wider : (place further : ℕ) (bs : List Break) → place ≤ further → AreFrom further bs → AreFrom place bs
from-wider place further [] wider from = tt
from-wider place further (b ∷ bs) wider from = (let first = from.0 in omega arith, from-wider place further bs wider from.1)

pub break-from : (place at : ℕ) (verdict : Verdict) (more : List Break) → place ≤ at → AreFrom place more → AreFrom place (with_break at verdict more)
break-from place at verdict more after from =
    elim (is_no verdict.kind) as (λ no. AreFrom place (cond no more (break_by at verdict ∷ more))) [ true ↦ from | false ↦ (after, from) ]

pub end-from : (goes_on : Bool) (profile : Profile) (cell : ℕ → Cell) (taken : List ℕ) (at : ℕ) → AreFrom at (end_in goes_on profile cell taken at)
end-from false profile cell taken at = break-from at at (verdict_between_in profile (map cell taken) []) [] (omega arith) tt
end-from true profile cell [] at = tt
end-from true profile cell (c ∷ []) at =
    elim (ends_line (cell c).class)
    as (λ b. AreFrom at (cond b (break_by at (end_after (cell c).class) ∷ []) []))
    [ true ↦ (let same : at ≤ at = omega arith in same, tt) | false ↦ tt ]
end-from true profile cell (c ∷ d ∷ ds) at = end-from true profile cell (d ∷ ds) at

-- those to come from a byte on stand there or behind it
pub onward-from : (goes_on : Bool) (profile : Profile) (cell : ℕ → Cell) (taken : List ℕ) (at : ℕ) (ps : List Decoded)
    → AreFrom at (onward_to (end_in goes_on) profile cell taken at ps)
onward-from goes_on profile cell taken at [] = end-from goes_on profile cell taken at
onward-from goes_on profile cell taken at (p ∷ ps) =
    let on = taken ++ or_replacement p.char ∷ [] in
    let rest = onward_to (end_in goes_on) profile cell on (at + p.size) ps in
    break-from at at (verdict_between_in profile (map cell taken) (map cell (scalars_of (p ∷ ps)))) rest (omega arith)
    (from-wider at (at + p.size) rest (omega arith) (onward-from goes_on profile cell on (at + p.size) ps))

-- none of them stands before
pub from-none : (least place : ℕ) (bs : List Break) → AreFrom least bs → place < least → stands_among place bs ≡ false
from-none least place [] from before = refl
from-none least place (b ∷ bs) from before =
    let first = from.0 in
    ap₂ ◌||◌ (ne_eqb b.at place (λ e. omega arith)) (from-none least place bs from.1 before)

-- of all breaks those from a byte on are left
pub left-from : (place : ℕ) (bs : List Break) → AreFrom place bs → from_on place bs ≡ bs
left-from place [] from = refl
left-from place (b ∷ bs) from =
    cond-true (leb place b.at) (b ∷ from_on place bs) (from_on place bs) (le-leb place b.at from.0) ∙ ap (λ l. b ∷ l) (left-from place bs from.1)

pub left-behind : (place : ℕ) (given rest : List Break) → AreBelow place given → from_on place (given ++ rest) ≡ from_on place rest
left-behind place [] rest below = refl
left-behind place (b ∷ bs) rest below =
    cond-false (leb place b.at) (b ∷ from_on place (bs ++ rest)) (from_on place (bs ++ rest)) (lt-leb place b.at below.0) ∙ left-behind place bs rest below.1

pub left-past : (place : ℕ) (bs : List Break) → AreBelow place bs → from_on place bs ≡ []
left-past place [] below = refl
left-past place (b ∷ bs) below =
    cond-false (leb place b.at) (b ∷ from_on place bs) (from_on place bs) (lt-leb place b.at below.0) ∙ left-past place bs below.1

pub end-below : (goes_on : Bool) (profile : Profile) (cell : ℕ → Cell) (taken : List ℕ) (at stop : ℕ) → at < stop → AreBelow stop (end_in goes_on profile cell taken at)
end-below false profile cell taken at stop before = break-below stop at (verdict_between_in profile (map cell taken) []) before
end-below true profile cell [] at stop before = tt
end-below true profile cell (c ∷ []) at stop before =
    elim (ends_line (cell c).class)
    as (λ b. AreBelow stop (cond b (break_by at (end_after (cell c).class) ∷ []) []))
    [ true ↦ (before, tt) | false ↦ tt ]
end-below true profile cell (c ∷ d ∷ ds) at stop before = end-below true profile cell (d ∷ ds) at stop before
