-- Breaks in order, one break more.
use Rattle.std.proofs.Common.{◌≡◌, ℕ, ◌+◌, ◌<◌, ◌≤◌, true, false, not, List, length, get_or, set, below_more, get_or-set_other, get_or-set_same, refl, sym, ap, subst, arith}
use Rattle.std.specs.Int.{from_bool}
use Rattle.lbk_rules.specs.declared.Break.{Break}
use Rattle.lbk_rules.specs.Breaks.{is_no}
use Rattle.lbk_bytes.specs.declared.raw_break.RawBreak.{RawBreak}
use Rattle.lbk_bytes.specs.Order.{AreBreaks, AreInOrder, AreInOrderBy, IsBreak, no_break}
use Rattle.lbk_bytes.specs.Shown.{raw_of}

pub AreInOrder-none : {Is : RawBreak → Type 0} (block : List RawBreak) (from to : ℕ) → AreInOrderBy Is block 0 from to
AreInOrder-none block from to = record {
  each = λ k none. absurd (omega arith);
  within = λ k none. absurd (omega arith);
  rising = λ k none. absurd (omega arith);
}

pub AreInOrder-wider : {Is : RawBreak → Type 0} (block : List RawBreak) (count from to further : ℕ) → to ≤ further → AreInOrderBy Is block count from to → AreInOrderBy Is block count from further
AreInOrder-wider block count from to further wider o = record {
  each = o.each;
  within = λ k few. let w = o.within k few in (w.0, omega (arith, w.1, wider));
  rising = o.rising;
}

-- a write behind the breaks leaves them
kept : (block : List RawBreak) (count : ℕ) (found : RawBreak) (k : ℕ) → k < count → get_or (set block count found) k no_break ≡ get_or block k no_break
kept block count found k few = get_or-set_other block count k found no_break (λ same. omega arith)

AreInOrder-kept : {Is : RawBreak → Type 0} (block : List RawBreak) (count : ℕ) (found : RawBreak) (from to : ℕ) → AreInOrderBy Is block count from to → AreInOrderBy Is (set block count found) count from to
AreInOrder-kept {Is} block count found from to o =
    let same : (k : ℕ) → k < count → (get_or (set block count found) k no_break).at ≡ (get_or block k no_break).at =
    λ k few. ap (λ (b : RawBreak). b.at) (kept block count found k few) in
    record {
      each = λ k few. subst Is (sym (kept block count found k few)) (o.each k few);
      within = λ k few. let w = o.within k few in let s = same k few in (omega (arith, w.0, s), omega (arith, w.1, s));
      rising = λ k few j before. let r = o.rising k few j before in let s = same k few in let t = same j (omega arith) in omega (arith, r, s, t);
    }

pub AreInOrder-added : (Is : RawBreak → Type 0) (block : List RawBreak) (count : ℕ) (found : Break) (from to : ℕ) → count < length block → Is (raw_of found)
    → from ≤ found.at → found.at < to → AreInOrderBy Is block count from found.at → AreInOrderBy Is (set block count (raw_of found)) (count + 1) from to
AreInOrder-added Is block count found from to inside shows low high o =
    let more = set block count (raw_of found) in
    let k = AreInOrder-kept block count (raw_of found) from found.at o in
    let last : get_or more count no_break ≡ raw_of found = get_or-set_same block count (raw_of found) no_break inside in
    let place : (get_or more count no_break).at ≡ found.at = ap (λ (b : RawBreak). b.at) last in
    record {
      each = below_more (λ n. Is (get_or more n no_break)) count k.each (subst Is (sym last) shows);
      within = below_more (λ n. (from ≤ (get_or more n no_break).at) × ((get_or more n no_break).at < to)) count
          (λ n few. let w = k.within n few in (w.0, omega (arith, w.1, high))) (omega (arith, place, low), omega (arith, place, high));
      rising = below_more (λ n. (j : ℕ) → j < n → (get_or more j no_break).at < (get_or more n no_break).at) count k.rising
          (λ j few. let w = k.within j few in omega (arith, w.1, place));
    }

-- a break that is written counts where it is one
pub AreInOrder-put : (block : List RawBreak) (count : ℕ) (found : Break) (from to : ℕ) → count < length block → from ≤ found.at → found.at < to
    → AreInOrder block count from found.at → AreInOrder (set block count (raw_of found)) (count + from_bool (not (is_no found.kind))) from to
AreInOrder-put block count found from to inside low high o =
    elim (is_no found.kind)
    as (λ no. is_no found.kind ≡ no → AreInOrder (set block count (raw_of found)) (count + from_bool (not no)) from to) [
      | true ↦ λ none.
          subst (λ n. AreInOrder (set block count (raw_of found)) n from to) (let e : count ≡ count + 0 = omega arith in e)
          (AreInOrder-kept block count (raw_of found) from to (AreInOrder-wider block count from found.at to (omega arith) o))
      | false ↦ λ some. AreInOrder-added IsBreak block count found from to inside (found, refl, some) low high o
    ] refl

-- the same, whatever the places are
pub AreBreaks-put : (block : List RawBreak) (count : ℕ) (found : Break) → count < length block → AreBreaks block count
    → AreBreaks (set block count (raw_of found)) (count + from_bool (not (is_no found.kind)))
AreBreaks-put block count found inside all =
    let more = set block count (raw_of found) in
    let front : AreBreaks more count = λ k few. subst IsBreak (sym (kept block count (raw_of found) k few)) (all k few) in
    let last : get_or more count no_break ≡ raw_of found = get_or-set_same block count (raw_of found) no_break inside in
    elim (is_no found.kind)
    as (λ no. is_no found.kind ≡ no → AreBreaks more (count + from_bool (not no))) [
      | true ↦ λ none. subst (AreBreaks more) (let e : count ≡ count + 0 = omega arith in e) front
      | false ↦ λ some. below_more (λ n. IsBreak (get_or more n no_break)) count front (subst IsBreak (sym last) (found, refl, some))
    ] refl
