-- Bytes that are the same tell the same of words.
use Rattle.std.proofs.Common.{◌≡◌, inl, inr, ℕ, zero, suc, ◌+◌, ◌-◌, ◌<◌, ◌≤◌, true, false, not, ◌&&◌, ◌||◌, nat_lt, if◌then◌else◌, List, ◌++◌, get_or, length, min, replicate, refl, sym, ap, ap₂, subst, ◌∙◌, ⊎_elim, arith}
use Rattle.std.proofs.lemmas.Bool.{and_left, cases_lt, le-ltb, lt-ltb}
use Rattle.std.proofs.lemmas.List.{get_or-append_right, get_or-replicate, get_or_append_left, get_or_past, length-replicate}
use Rattle.lbk_masks.specs.Bits.{AreKeptBelow}
use Rattle.lbk_masks.specs.Sets.{meets, sets_in}
use Rattle.lbk_words.specs.declared.letter_table.TheConstants.{FIRSTS, SECONDS}
use Rattle.lbk_words.specs.Blocks.{ArePlain, IsPlain, begins, begins_at, class_at, class_of, is_either, is_first, is_inner, is_joined, is_long, is_middle, is_open, letter_class, runs_at, size_at, spells_long}
use Rattle.lbk_words.specs.Ends.{AreEnds, goes_on_at, is_pair}

-- zeros behind some bytes
pub same-padded : (bytes : List ℕ) (n i : ℕ) → get_or (bytes ++ replicate n 0) i 0 ≡ get_or bytes i 0
same-padded bytes n i =
    ⊎_elim
    (λ (less : i < length bytes). get_or_append_left bytes (replicate n 0) 0 i less)
    (λ (past : length bytes ≤ i).
    get_or-append_right bytes (replicate n 0) (length bytes) i 0 refl past
    ∙ ⊎_elim
    (λ (inside : i - length bytes < n). get_or-replicate n (i - length bytes) 0 0 inside)
    (λ (behind : n ≤ i - length bytes). get_or_past (replicate n 0) (i - length bytes) 0 (let size : length (replicate {A = ℕ} n 0) ≡ n = length-replicate n 0 in omega (arith, behind, size)))
    (cases_lt (i - length bytes) n)
    ∙ sym (get_or_past bytes i 0 past))
    (cases_lt i (length bytes))

module _ (a b : List ℕ) (same : (i : ℕ) → get_or a i 0 ≡ get_or b i 0) where
  pub first-same : (i : ℕ) → is_first a i ≡ is_first b i
  first-same i = ap₂ (λ x y. nat_lt i 63 && meets (sets_in FIRSTS x) (sets_in SECONDS y)) (same i) (same (i + 1))

  long-same : (i : ℕ) → is_long a i ≡ is_long b i
  long-same i =
      ap₂ (λ x y. nat_lt i 62 && spells_long x y (get_or a (i + 2) 0)) (same i) (same (i + 1))
      ∙ ap (λ z. nat_lt i 62 && spells_long (get_or b i 0) (get_or b (i + 1) 0) z) (same (i + 2))

  middle-same : (i : ℕ) → is_middle a i ≡ is_middle b i
  middle-same zero = refl
  middle-same (suc i) = long-same i

  open-same : (i : ℕ) → is_open a i ≡ is_open b i
  open-same i = ap₂ (λ x y. x || y) (ap₂ (λ x y. x || y) (first-same i) (long-same i)) (middle-same i)

  inner-same : (i : ℕ) → is_inner a i ≡ is_inner b i
  inner-same zero = refl
  inner-same (suc i) = open-same i

  either-same : (i : ℕ) → is_either a i ≡ is_either b i
  either-same i = ap₂ (λ x y. x || y) (open-same i) (inner-same i)

  size-same : (i : ℕ) → size_at a i ≡ size_at b i
  size-same i = ap₂ (λ x y. if x then 2 else if y then 3 else 1) (first-same i) (long-same i)

  class-same : (i : ℕ) → class_at a i ≡ class_at b i
  class-same i = ap₂ (λ e x. if e then letter_class else class_of x) (either-same i) (same i)

  begins-same : (i : ℕ) → begins_at a i ≡ begins_at b i
  begins-same i = ap₂ (λ c s. begins c && not s) (class-same i) (inner-same i)

  runs-same : (i : ℕ) → runs_at a i ≡ runs_at b i
  runs-same i =
      ap₂ (λ x y. is_joined x y (class_at a (i + 1))) (class-same (i - 1)) (class-same i) ∙ ap (is_joined (class_at b (i - 1)) (class_at b i)) (class-same (i + 1))

  goes-same : (i : ℕ) → goes_on_at a i ≡ goes_on_at b i
  goes-same i = ap₂ (λ x y. x || y) (ap₂ (λ x y. x && y) (runs-same (i - 1)) (runs-same i)) (ap₂ is_pair (same (i - 1)) (same i))

  plain-one : (i : ℕ) → IsPlain a i → IsPlain b i
  plain-one i is = ⊎_elim (λ (low : get_or a i 0 < 128). inl (subst (λ n. n < 128) (same i) low)) (λ (either : is_either a i ≡ true). inr (sym (either-same i) ∙ either)) is

  plain-same : (i : ℕ) → ArePlain a i → ArePlain b i
  plain-same i are = record {
    here = plain-one i are.here;
    inside = subst (λ n. i + n < 64) (size-same i) are.inside;
    behind = subst (λ n. IsPlain b (i + n)) (size-same i) (plain-one (i + size_at a i) are.behind);
  }

  -- the ends before a byte
  pub ends-same : (first stop most ends kept : ℕ) → most < 64 → AreEnds a first stop ends → AreKeptBelow most ends kept → AreEnds b first (min stop most) kept
  ends-same first stop most ends kept few are below = record {
    few = omega (arith, are.few);
    fit = λ i. subst (λ n. n < 256) (same i) (are.fit i);
    told = λ i few_i. ⊎_elim
        (λ (less : i < most).
        below.same i less ∙ are.told i few_i
        ∙ ap₂ (λ s g. s && (nat_lt first i && not g)) (stop-same i less) (goes-same i))
        (λ (past : most ≤ i).
        below.none i past few_i ∙ sym (and_left (nat_lt i (min stop most)) (nat_lt first i && not (goes_on_at b i)) (le-ltb i (min stop most) (omega arith))))
        (cases_lt i most);
    plain = λ i after less. plain-same i (are.plain i after (omega arith));
    begins = λ i after less run why.
        sym (begins-same i) ∙ are.begins i after (omega arith) (runs-same i ∙ run)
        (⊎_elim (λ (here : i ≡ first). inl here) (λ (none : runs_at b (i - 1) ≡ false). inr (runs-same (i - 1) ∙ none)) why);
  }
    where
      stop-same : (i : ℕ) → i < most → nat_lt i stop ≡ nat_lt i (min stop most)
      stop-same i less = ⊎_elim
          (λ (inside : i < stop). lt-ltb i stop inside ∙ sym (lt-ltb i (min stop most) (omega arith)))
          (λ (past : stop ≤ i). le-ltb i stop past ∙ sym (le-ltb i (min stop most) (omega arith)))
          (cases_lt i stop)
