-- Where a step stands among all steps, and what is read there.
use Rattle.std.proofs.Common.{◌≡◌, ℕ, zero, suc, ◌+◌, ◌-◌, ◌*◌, ◌/◌, ◌%◌, ◌<◌, Bool, true, List, [], ◌∷◌, ◌++◌, ◌==◌, length, get_or, take, drop, refl, ap, ◌∙◌, arith, eqb-true}
use Rattle.std.specs.List.{flat_map}
use Rattle.std.proofs.lemmas.List.{get_or-append-add, get_or-drop, get_or_append_left, take_rest}
use Rattle.lbk_values.specs.declared.profile.Profile.{Profile}
use Rattle.lbk_values.specs.declared.profile.Profile.TheVariants.{First, Second}
use Rattle.lbk_rules.specs.declared.steps.Step.{Step}
use Rattle.lbk_rules.specs.Rows.{IsPlace, no_step, steps_in}
use Rattle.lbk_rules.proofs.RowChecks.{each_below}
use Rattle.lbk_rules.proofs.RowLemmas.{each_below-at}

-- where a step stands, if all rows are as long
pub flat-at : (rows : List (List Step)) (row k : ℕ) → ((r : ℕ) → r < length rows → length (get_or rows r []) ≡ 128) → row < length rows → k < 128
    → get_or (flat_map (λ steps. steps) rows) (128 * row + k) no_step ≡ get_or (get_or rows row []) k no_step
flat-at [] row k each few low = absurd (omega arith)
flat-at (steps ∷ rows) zero k each few low =
    let long : length steps ≡ 128 = each 0 (omega arith) in
    let at : 128 * 0 + k ≡ k = omega arith in
    ap (λ n. get_or (steps ++ flat_map (λ steps. steps) rows) n no_step) at
    ∙ get_or_append_left steps (flat_map (λ steps. steps) rows) no_step k (omega arith)
flat-at (steps ∷ rows) (suc row) k each few low =
    let long : length steps ≡ 128 = each 0 (omega arith) in
    let at : 128 * suc row + k ≡ length steps + (128 * row + k) = omega arith in
    ap (λ n. get_or (steps ++ flat_map (λ steps. steps) rows) n no_step) at
    ∙ get_or-append-add steps (flat_map (λ steps. steps) rows) (128 * row + k) no_step
    ∙ flat-at rows row k (λ r below. each (suc r) (omega (arith, below))) (omega (arith, few)) low

whole_row : Profile → ℕ → Bool
whole_row profile row = length (get_or (steps_in profile) row []) == 128

whole_first : each_below (whole_row First) 128 ≡ true
unfolding each_below whole_row
whole_first = refl

whole_second : each_below (whole_row Second) 128 ≡ true
unfolding each_below whole_row
whole_second = refl

row-whole : (profile : Profile) (row : ℕ) → row < 128 → length (get_or (steps_in profile) row []) ≡ 128
unfolding whole_row
row-whole First row few = eqb-true _ _ (each_below-at (whole_row First) 128 row whole_first few)
row-whole Second row few = eqb-true _ _ (each_below-at (whole_row Second) 128 row whole_second few)

pub row-long : (profile : Profile) (rows : List (List Step)) → rows ≡ steps_in profile → (row : ℕ) → row < 128 → length (get_or rows row []) ≡ 128
row-long profile rows is row few = ap (λ r. length (get_or r row [])) is ∙ row-whole profile row few

rows-many : (profile : Profile) → length (steps_in profile) ≡ 128
rows-many First = refl
rows-many Second = refl

-- the step that is read behind as many others as the kind's number, and then at the place
pub step-read : (profile : Profile) (rows : List (List Step)) (all : List Step) (place kind : ℕ) → rows ≡ steps_in profile → all ≡ flat_map (λ steps. steps) rows → IsPlace place
    → get_or (take (length all - kind % 128) (drop (kind % 128) all)) place no_step ≡ get_or (get_or rows (place / 128) []) (kind % 128) no_step
step-read profile rows all place kind is whole begins =
    let many = ap length is ∙ rows-many profile in
    let aligned = begins.0 in
    let few = begins.1 in
    let at : kind % 128 + place ≡ 128 * (place / 128) + kind % 128 = omega arith in
    ap (λ l. get_or l place no_step) (take_rest all (kind % 128))
    ∙ get_or-drop (kind % 128) all place no_step
    ∙ ap (λ l. get_or l (kind % 128 + place) no_step) whole
    ∙ ap (λ n. get_or (flat_map (λ steps. steps) rows) n no_step) at
    ∙ flat-at rows (place / 128) (kind % 128) (λ r below. row-long profile rows is r (omega (arith, below, many))) (omega (arith, few, many)) (omega arith)
