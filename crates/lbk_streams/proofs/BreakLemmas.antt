-- Breaks in the front of a block, whatever their places are.
use Rattle.std.proofs.Common.{◌≡◌, ℕ, zero, suc, ◌+◌, ◌-◌, ◌<◌, ◌≤◌, ⊎_elim, List, ◌++◌, length, take, get_or, set, get_or-set_other, get_or-set_same, length-take-le, sym, ap, subst, ◌∙◌, arith}
use Rattle.std.proofs.lemmas.Bool.{cases_eq, cases_lt}
use Rattle.std.proofs.lemmas.List.{get_or_append_left, get_or-append_right, get_or-take}
use Rattle.lbk_rules.specs.declared.Break.{Break}
use Rattle.lbk_bytes.specs.declared.raw_break.RawBreak.{RawBreak}
use Rattle.lbk_bytes.specs.Order.{AreBreaks, AreInOrder, IsBreak, no_break}

-- a break stays one at another place
pub AreBreaks-moved : (block : List RawBreak) (k at count : ℕ) → k < length block → k < count → AreBreaks block count
    → AreBreaks (set block k (record { at = at; kind = (get_or block k no_break).kind; rule = (get_or block k no_break).rule })) count
AreBreaks-moved block k at count inside among all j few =
    let old = get_or block k no_break in
    let new : RawBreak = record { at = at; kind = old.kind; rule = old.rule } in
    let is = all k among in
    let found : Break = record { at = at; kind = is.0.kind; rule = is.0.rule } in
    let there : RawBreak → RawBreak = λ raw. record { at = at; kind = raw.kind; rule = raw.rule } in
    let moved : IsBreak new = (found, ap there is.1, is.2) in
    ⊎_elim (λ (same : k ≡ j).
    subst (λ n. IsBreak (get_or (set block k new) n no_break)) same (subst IsBreak (sym (get_or-set_same block k new no_break inside)) moved))
    (λ (apart : k ≡ j → ⊥). subst IsBreak (sym (get_or-set_other block k j new no_break (λ same. apart (sym same)))) (all j few))
    (cases_eq k j)

-- some breaks, and others behind them
pub AreBreaks-behind : (out room others : List RawBreak) (count more : ℕ) → count ≤ length out → more ≤ length room → AreBreaks out count → AreBreaks room more
    → AreBreaks (take count out ++ (room ++ others)) (count + more)
AreBreaks-behind out room others count more within few front back k inside =
    let long : length (take count out) ≡ count = length-take-le count out within in
    ⊎_elim (λ (before : k < count).
    subst IsBreak (sym (get_or_append_left (take count out) (room ++ others) no_break k (omega arith) ∙ get_or-take count out k no_break before)) (front k before))
    (λ (on : count ≤ k).
    subst IsBreak (sym (get_or-append_right (take count out) (room ++ others) count k no_break long on ∙ get_or_append_left room others no_break (k - count) (omega arith)))
    (back (k - count) (omega arith)))
    (cases_lt k count)

-- breaks that rise are no more than the places between
far-enough : (block : List RawBreak) (count from to : ℕ) → AreInOrder block count from to → (k : ℕ) → k < count → from + k ≤ (get_or block k no_break).at
far-enough block count from to order zero few = omega (arith, (order.within zero few).0)
far-enough block count from to order (suc k) few =
    omega (arith, far-enough block count from to order k (omega arith), order.rising (suc k) few k (omega arith))

pub few-between : (block : List RawBreak) (count from to : ℕ) → from ≤ to → AreInOrder block count from to → count + from ≤ to
few-between block zero from to on order = omega arith
few-between block (suc count) from to on order =
    omega (arith, far-enough block (suc count) from to order count (omega arith), (order.within count (omega arith)).1)
