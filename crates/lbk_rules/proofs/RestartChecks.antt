-- Each step with a break leads to the row that its cell has at the start of a text: so it is of all steps of both tables.
use Rattle.std.proofs.Common.{◌≡◌, ℕ, ◌+◌, Bool, true, ◌||◌, ◌&&◌, ◌==◌, refl}
use Rattle.lbk_values.specs.declared.profile.Profile.{Profile}
use Rattle.lbk_values.specs.declared.profile.Profile.TheVariants.{First, Second}
use Rattle.lbk_uax14.specs.Breaks.{is_no}
use Rattle.lbk_rules.specs.Rows.{step_of, verdict_shown}
use Rattle.lbk_rules.proofs.RowChecks.{each_below}

-- no line breaks by the step, or it leads where the step from the first row leads
abbrev pub starts_anew : Profile → ℕ → ℕ → Bool
starts_anew profile row kind =
    is_no (verdict_shown (step_of profile row kind).shown).kind
    || (step_of profile row kind).next == (step_of profile 0 kind).next

-- so it is of all steps of a row
abbrev pub row_anew : ℕ → Bool
row_anew row = each_below (starts_anew First row) 84 && each_below (starts_anew Second row) 84

-- so it is of this many rows from one on
abbrev pub AreAnew : ℕ → ℕ → Type 0
AreAnew from many = each_below (λ j. row_anew (from + j)) many ≡ true

pub anew_from_0 : AreAnew 0 32
unfolding each_below verdict_shown
anew_from_0 = refl

pub anew_from_32 : AreAnew 32 32
unfolding each_below verdict_shown
anew_from_32 = refl

pub anew_from_64 : AreAnew 64 32
unfolding each_below verdict_shown
anew_from_64 = refl

pub anew_from_96 : AreAnew 96 32
unfolding each_below verdict_shown
anew_from_96 = refl
