-- What stands behind a quotation mark that may close.
use Rattle.std.proofs.Common.{◌≡◌, ◌||◌, Bool, true, false, cond, Option, Some, None, List, ◌∷◌, refl}
use Rattle.lbk_rules.specs.declared.Cell.{Cell}
use Rattle.lbk_rules.specs.Classes.{closes_before, hard, mark, none_of}
use Rattle.lbk_rules.specs.Sides.{leaves_closed}
use Rattle.lbk_rules.specs.Units.{unit, units_after}

-- what the next cell tells, if it heads a unit
abbrev pub told_by : Bool → Cell → Option Bool
told_by fresh x = cond (fresh || none_of mark x.class) (Some (closes_before (unit x).class)) None

pub heads-tells : (fresh : Bool) (x : Cell) (more : List Cell) (closes : Bool) → told_by fresh x ≡ Some closes
    → leaves_closed (units_after fresh (x ∷ more)) ≡ closes
heads-tells fresh x more closes =
    elim (fresh || none_of mark x.class)
    as (λ b. cond b (Some (closes_before (unit x).class)) None ≡ Some closes
    → leaves_closed (cond b (unit x ∷ units_after (hard x.class) more) (units_after (hard x.class) more)) ≡ closes)
    [ true ↦ λ told. (cc) | false ↦ λ told. absurd (let no : ⊥ = cc in no) ]

pub joins-leaves : (fresh : Bool) (x : Cell) (more : List Cell) → told_by fresh x ≡ None
    → leaves_closed (units_after fresh (x ∷ more)) ≡ leaves_closed (units_after (hard x.class) more)
joins-leaves fresh x more =
    elim (fresh || none_of mark x.class)
    as (λ b. cond b (Some (closes_before (unit x).class)) None ≡ None
    → leaves_closed (cond b (unit x ∷ units_after (hard x.class) more) (units_after (hard x.class) more)) ≡ leaves_closed (units_after (hard x.class) more))
    [ true ↦ λ told. absurd (let no : ⊥ = cc in no) | false ↦ λ told. refl ]
