-- How far to the right the rules look.
use Rattle.std.proofs.Common.{◌≡◌, ℕ, ◌+◌, ◌<◌, ◌≤◌, Bool, true, false, cond, ◌||◌, Option, Some, None, List, [], ◌∷◌}
use Rattle.std.proofs.Common.{◌++◌, length, take, drop, reverse, refl, sym, ap, ◌∙◌, subst, IsSome, ◌⊎◌, inl, inr}
use Rattle.std.proofs.Common.{arith}
use Rattle.std.proofs.lemmas.Bool.{false≢true, cases_lt}
use Rattle.std.proofs.lemmas.List.{take-take, take-append-drop, drop-take, drop_all, drop-append-le, take_all}
use Rattle.lbk_uax14.specs.declared.cells.Cell.{Cell}
use Rattle.lbk_values.specs.declared.profile.Profile.{Profile}
use Rattle.lbk_values.specs.declared.profile.Profile.TheVariants.{First, Second}
use Rattle.lbk_uax14.specs.Classes.{hard, mark, none_of, closes_before}
use Rattle.lbk_uax14.specs.Sides.{Side, leaves_closed}
use Rattle.lbk_uax14.specs.Units.{unit, units_after, first, next_unit}
use Rattle.lbk_uax14.specs.Facts.{units_before, closes_in}
use Rattle.lbk_uax14.specs.Rules.{cell_rules, joining_rules, opening_rules, quotation_rules, space_rules, hyphen_rules}
use Rattle.lbk_uax14.specs.Rules.{affix_rules, number_rules, syllable_rules, letter_rules}
use Rattle.lbk_uax14.specs.Verdict.{verdict_between_in, verdict_in}
use Rattle.lbk_uax14.proofs.ChainLemmas.{verdict_between-chain}
use Rattle.lbk_uax14.specs.Chain.{choose, from_11, from_14, from_15, from_16, from_19, from_23, from_25, from_26}
use Rattle.lbk_uax14.specs.Chain.{from_28, from_cells}

-- from rule 16 on only the first unit of the right counts
pub from_16-right : (left : Side) (right : Cell) (a b : Side) → from_16 left (right ∷ a) ≡ from_16 left (right ∷ b)
unfolding from_16 from_19 from_23 from_25 from_26 from_28 space_rules hyphen_rules affix_rules number_rules
    syllable_rules letter_rules
from_16-right left right a b = refl

-- of what comes after, only what closes a quotation mark counts
from_15-right : (profile : Profile) (left : Side) (right : Cell) (a b : Side)
    → closes_in profile a ≡ closes_in profile b → from_15 profile left (right ∷ a) ≡ from_15 profile left (right ∷ b)
unfolding from_15 quotation_rules
from_15-right First left right a b same =
    ap (λ v. choose (quotation_rules First) left (right ∷ a) v) (from_16-right left right a b)
from_15-right Second left right a b same =
    ap (λ v. choose (quotation_rules Second) left (right ∷ a) v) (from_16-right left right a b)
    ∙ rw same

from_14-right : (profile : Profile) (left : Side) (right : Cell) (a b : Side)
    → closes_in profile a ≡ closes_in profile b → from_14 profile left (right ∷ a) ≡ from_14 profile left (right ∷ b)
unfolding from_14 opening_rules
from_14-right profile left right a b same =
    ap (λ v. choose opening_rules left (right ∷ a) v) (from_15-right profile left right a b same)

from_11-right : (profile : Profile) (left : Side) (right : Cell) (a b : Side)
    → closes_in profile a ≡ closes_in profile b → from_11 profile left (right ∷ a) ≡ from_11 profile left (right ∷ b)
unfolding from_11 joining_rules
from_11-right profile left right a b same =
    ap (λ v. choose joining_rules left (right ∷ a) v) (from_14-right profile left right a b same)

pub from_cells-right : (profile : Profile) (left : Side) (right : Cell) (a b : List Cell)
    → closes_in profile (units_after (hard right.class) a) ≡ closes_in profile (units_after (hard right.class) b)
    → from_cells profile left (right ∷ a) ≡ from_cells profile left (right ∷ b)
unfolding from_cells cell_rules
from_cells-right profile left right a b same =
    ap (λ v. choose cell_rules left (right ∷ a) v)
    (from_11-right profile (units_before left) (unit right)
    (units_after (hard right.class) a) (units_after (hard right.class) b) same)

-- what closes a quotation mark is told by the unit after it
closed_by : Option Cell → Bool
closed_by None = true
closed_by (Some cell) = closes_before cell.class

leaves_closed-first : (a : Side) → leaves_closed a ≡ closed_by (first a)
unfolding closed_by
leaves_closed-first [] = refl
leaves_closed-first (_ ∷ _) = refl

closes_in-first : (profile : Profile) (a b : Side) → first a ≡ first b → closes_in profile a ≡ closes_in profile b
closes_in-first First a b same = refl
closes_in-first Second a b same =
    leaves_closed-first a ∙ ap closed_by same ∙ sym (leaves_closed-first b)

-- in the first profile nothing of it counts
closes_in-none : (a b : Side) → closes_in First a ≡ closes_in First b
closes_in-none a b = refl

-- The look-ahead law, between lists: the right counts by its first cell, and in the second profile by the unit
-- after it
pub look_ahead_between : (left a b : List Cell) → take 1 a ≡ take 1 b
    → verdict_between_in First left a ≡ verdict_between_in First left b
look_ahead_between left [] [] same = refl
look_ahead_between left [] (_ ∷ _) same = cc
look_ahead_between left (_ ∷ _) [] same = cc
look_ahead_between left (x ∷ a) (y ∷ b) same =
    let begins : x ≡ y = cc in
    verdict_between-chain First left (x ∷ a)
    ∙ from_cells-right First (reverse left) x a b refl
    ∙ ap (λ c. from_cells First (reverse left) (c ∷ b)) begins
    ∙ sym (verdict_between-chain First left (y ∷ b))

pub look_ahead_between_in : (profile : Profile) (left a b : List Cell) → take 1 a ≡ take 1 b → next_unit a ≡ next_unit b
    → verdict_between_in profile left a ≡ verdict_between_in profile left b
look_ahead_between_in profile left [] [] same next = refl
look_ahead_between_in profile left [] (_ ∷ _) same next = cc
look_ahead_between_in profile left (_ ∷ _) [] same next = cc
look_ahead_between_in profile left (x ∷ a) (y ∷ b) same next =
    let begins : x ≡ y = cc in
    let next' : first (units_after (hard x.class) a) ≡ first (units_after (hard x.class) b) =
    next ∙ ap (λ c. first (units_after (hard c.class) b)) (sym begins) in
    verdict_between-chain profile left (x ∷ a)
    ∙ from_cells-right profile (reverse left) x a b (closes_in-first profile _ _ next')
    ∙ ap (λ c. from_cells profile (reverse left) (c ∷ b)) begins
    ∙ sym (verdict_between-chain profile left (y ∷ b))

-- The same by positions

before-same : (a b : List Cell) (k : ℕ) → take (k + 1) a ≡ take (k + 1) b → take k a ≡ take k b
before-same a b k same =
    sym (take-take k (k + 1) a (omega arith)) ∙ ap (λ l. take k l) same ∙ take-take k (k + 1) b (omega arith)

after-same : (a b : List Cell) (k : ℕ) → take (k + 1) a ≡ take (k + 1) b → take 1 (drop k a) ≡ take 1 (drop k b)
after-same a b k same = sym (drop-take k 1 a) ∙ ap (λ l. drop k l) same ∙ drop-take k 1 b

pub look_ahead_at : (a b : List Cell) (k : ℕ) → take (k + 1) a ≡ take (k + 1) b
    → verdict_in First a k ≡ verdict_in First b k
look_ahead_at a b k same =
    ap (λ l. verdict_between_in First l (drop k a)) (before-same a b k same)
    ∙ look_ahead_between (take k b) (drop k a) (drop k b) (after-same a b k same)

pub look_ahead_at_in : (profile : Profile) (a b : List Cell) (k : ℕ) → take (k + 1) a ≡ take (k + 1) b
    → next_unit (drop k a) ≡ next_unit (drop k b) → verdict_in profile a k ≡ verdict_in profile b k
look_ahead_at_in profile a b k same next =
    ap (λ l. verdict_between_in profile l (drop k a)) (before-same a b k same)
    ∙ look_ahead_between_in profile (take k b) (drop k a) (drop k b) (after-same a b k same) next

-- cells that come later do not change the next unit, once there is one
first-append : (fresh : Bool) (m more : List Cell) → IsSome (first (units_after fresh m))
    → first (units_after fresh (m ++ more)) ≡ first (units_after fresh m)
first-append fresh [] more some = absurd (false≢true some)
first-append fresh (cell ∷ m) more some =
    elim (fresh || none_of mark cell.class)
    as (λ v. IsSome (first (cond v (unit cell ∷ units_after (hard cell.class) m) (units_after (hard cell.class) m)))
    → first (cond v (unit cell ∷ units_after (hard cell.class) (m ++ more)) (units_after (hard cell.class) (m ++ more)))
    ≡ first (cond v (unit cell ∷ units_after (hard cell.class) m) (units_after (hard cell.class) m)))
    [ true ↦ λ _. refl | false ↦ first-append (hard cell.class) m more ] some

next_unit-append : (m more : List Cell) → IsSome (next_unit m) → next_unit (m ++ more) ≡ next_unit m
next_unit-append [] more some = absurd (false≢true some)
next_unit-append (cell ∷ m) more some = first-append (hard cell.class) m more some

next_unit-take : (a : List Cell) (k n : ℕ) → IsSome (next_unit (drop k (take n a)))
    → next_unit (drop k a) ≡ next_unit (drop k (take n a))
next_unit-take a k n some =
    elim (cases_lt (length (take n a)) k) [
      | inr within ↦
          ap (λ l. next_unit (drop k l)) (sym (take-append-drop n a))
          ∙ ap next_unit (drop-append-le k (take n a) (drop n a) within)
          ∙ next_unit-append (drop k (take n a)) (drop n a) some
      | inl past ↦
          absurd (false≢true (let P : List Cell → Type 0 = λ l. IsSome (next_unit l) in
          subst P (drop_all k (take n a) (omega arith)) some))
    ]

-- two lists that agree as far as the head of the unit after the cell at k, or wholly
pub look_ahead_as_far : (a b : List Cell) (k n : ℕ) → k < n → take n a ≡ take n b
    → IsSome (next_unit (drop k (take n a))) ⊎ ((length a ≤ n) × (length b ≤ n))
    → verdict_in Second a k ≡ verdict_in Second b k
look_ahead_as_far a b k n below same (inl some) =
    look_ahead_at_in Second a b k
    (sym (take-take (k + 1) n a (omega arith)) ∙ ap (λ l. take (k + 1) l) same ∙ take-take (k + 1) n b (omega arith))
    (next_unit-take a k n some ∙ ap (λ l. next_unit (drop k l)) same
    ∙ sym (next_unit-take b k n (let P : List Cell → Type 0 = λ l. IsSome (next_unit (drop k l)) in subst P same some)))
look_ahead_as_far a b k n below same (inr ends) =
    ap (λ l. verdict_in Second l k) (sym (take_all n a ends.0) ∙ same ∙ take_all n b ends.1)
