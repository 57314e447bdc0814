-- What a stepper knows of the scalars that it has taken.
use Rattle.std.specs.Prelude.{◌≡◌, ℕ, Bool, true, false, List, ◌∷◌, length, reverse, Option, Some, None}
use Rattle.lbk_uax14.specs.declared.cells.Cell.{Cell}
use Rattle.lbk_uax14.specs.declared.late_machine.Held.{Held}
use Rattle.lbk_rules.specs.declared.stepper.HeldRow.{HeldRow}
use Rattle.lbk_rules.specs.declared.stepper.Stepper.{Stepper}
use Rattle.lbk_values.specs.declared.profile.Profile.{Profile}
use Rattle.lbk_uax14.specs.declared.verdicts.Verdict.{Verdict}
use Rattle.lbk_uax14.specs.Chain.{from_cells}
use Rattle.lbk_uax14.specs.Classes.{hard}
use Rattle.lbk_uax14.specs.Facts.{closes_in, facts}
use Rattle.lbk_uax14.specs.LateFits.{waiting}
use Rattle.lbk_rules.specs.RowMachineFits.{RowMachineFits, normals}
use Rattle.lbk_uax14.specs.Sides.{Side}
use Rattle.lbk_uax14.specs.Units.{units_after}

-- the verdict of the position that waits, where the unit after its quotation mark leaves that closed or not
abbrev pub IsAnswer : Profile → Held → Bool → Verdict → Type 0
IsAnswer profile waits closes verdict =
    (side more : Side) → facts side ≡ waits.left
    → closes_in profile (units_after (hard waits.quotation.class) more) ≡ closes
    → verdict ≡ from_cells profile side (waits.quotation ∷ more)

-- the position that waits, with both its answers
pub record IsHeldRow (profile : Profile) (held : HeldRow) (waits : Held) : Type 0 where
  pub position_same : held.position ≡ waits.position
  pub if_closed : IsAnswer profile waits true held.if_closed
  pub if_open : IsAnswer profile waits false held.if_open

-- what is held is what waits, if anything does
abbrev pub Holds : Profile → Option HeldRow → Option Held → Type 0
Holds profile None None = Unit {0}
Holds profile (Some held) (Some waits) = IsHeldRow profile held waits
Holds profile _ _ = ⊥

-- its machine fits, its steps are counted, and it holds the position that waits
pub record StepperFits {C : Type 0} (cell_of : C → ℕ → Cell) (stepper : Stepper C) (profile : Profile) (cell : ℕ
    → Cell) (taken : List ℕ) : Type 0 where
  pub machine_fits : RowMachineFits cell_of stepper.machine profile cell taken
  pub steps_same : stepper.steps ≡ length taken
  pub held_same : Holds profile stepper.held (waiting profile (reverse (normals cell taken)))
