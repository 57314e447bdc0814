-- The steps of the tables are right: each is compared with the rules. The rows are compared in blocks, since the memory of a
-- comparison comes back only behind its lemma.
use Rattle.std.proofs.Common.{◌≡◌, ℕ, ◌+◌, ◌*◌, ◌/◌, Bool, true, ◌&&◌, ◌==◌, nat_lt, zero, suc, [], ◌∷◌, refl}
use Rattle.lbk_uax14.specs.contracts.facts.LeftPartialEq.TheImpl.{eq-value as left_eq}
use Rattle.lbk_values.specs.declared.profile.Profile.{Profile}
use Rattle.lbk_values.specs.declared.profile.Profile.TheVariants.{First, Second}
use Rattle.lbk_uax14.specs.Asked.{asked_before_spaces, asked_class, asked_of_cell, asked_of_unit}
use Rattle.lbk_uax14.specs.Chain.{from_11, from_14, from_15, from_16, from_19, from_23, from_25, from_26, from_28, from_cells}
use Rattle.lbk_uax14.specs.Classes.{is}
use Rattle.lbk_uax14.specs.Facts.{facts}
use Rattle.lbk_uax14.specs.Rules.{cell_rules, joining_rules, opening_rules, quotation_rules, space_rules, hyphen_rules, affix_rules, number_rules, syllable_rules, letter_rules}
use Rattle.lbk_uax14.specs.Sides.{at_odd_run, before_spaces, opens_quotation}
use Rattle.lbk_rules.specs.Kinds.{kind_cell}
use Rattle.lbk_rules.specs.Rows.{row_left, sample, shown_of, step_of}

-- each number below n passes
unfoldable pub each_below : (ℕ → Bool) → ℕ → Bool
each_below p zero = true
each_below p (suc n) = p n && each_below p n

-- the step leads to the place of a row that knows of the cell too
abbrev pub leads_right : ℕ → ℕ → Bool
leads_right row kind =
    let next = (step_of First row kind).next in
    (next == 128 * (next / 128)) && (nat_lt (next / 128) 128 && left_eq.it (facts (kind_cell kind ∷ sample row)) (row_left (next / 128)))

-- it shows the verdict before the cell
abbrev pub shows_right : Profile → ℕ → ℕ → Bool
shows_right profile row kind = (step_of profile row kind).shown == shown_of (from_cells profile (sample row) (kind_cell kind ∷ []))

-- the step of the second profile leads to the same row
abbrev pub same_next : ℕ → ℕ → Bool
same_next row kind = (step_of Second row kind).next == (step_of First row kind).next

-- the steps from the 85th on are the first again
abbrev pub is_copy : Profile → ℕ → ℕ → Bool
is_copy profile row kind =
    ((step_of profile row (84 + kind)).shown == (step_of profile row kind).shown) && ((step_of profile row (84 + kind)).next == (step_of profile row kind).next)

-- so it is of all steps of a row
abbrev pub row_right : ℕ → Bool
row_right row =
    each_below (leads_right row) 84
    && (each_below (shows_right First row) 84 && (each_below (shows_right Second row) 84
    && (each_below (same_next row) 84 && (each_below (is_copy First row) 44 && each_below (is_copy Second row) 44))))

-- what is computed with to compare the steps of rows
compared : Unit {0}
unfolding each_below facts is asked_before_spaces asked_class asked_of_cell asked_of_unit from_11 from_14 from_15 from_16
    from_19 from_23 from_25 from_26 from_28 from_cells cell_rules joining_rules opening_rules quotation_rules space_rules
    hyphen_rules affix_rules number_rules syllable_rules letter_rules at_odd_run before_spaces opens_quotation kind_cell
    row_left
compared = tt

-- so it is of this many rows from one on
abbrev pub AreRight : ℕ → ℕ → Type 0
AreRight from many = each_below (λ j. row_right (from + j)) many ≡ true

pub rows_from_0 : AreRight 0 19
unfolding compared
rows_from_0 = refl

pub rows_from_19 : AreRight 19 19
unfolding compared
rows_from_19 = refl

pub rows_from_38 : AreRight 38 19
unfolding compared
rows_from_38 = refl

pub rows_from_57 : AreRight 57 19
unfolding compared
rows_from_57 = refl

pub rows_from_76 : AreRight 76 19
unfolding compared
rows_from_76 = refl

pub rows_from_95 : AreRight 95 19
unfolding compared
rows_from_95 = refl

pub rows_from_114 : AreRight 114 14
unfolding compared
rows_from_114 = refl
