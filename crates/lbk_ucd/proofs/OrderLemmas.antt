-- Rows in another order: no two share a code in that either, and each code has its value.
use Rattle.std.proofs.Common.{◌≡◌, ℕ, ◌<◌, ◌≤◌, ◌⊎◌, Bool, true, false, List, length, get_or, Some, refl, sym, ap, ◌∙◌, arith, inl, inr}
use Rattle.std.specs.List.{All, AllPairs, find, list_any, position_or_len, slice_get, swap}
use Rattle.std.specs.List.Sorted.{IsNonDecreasingBy, IsPermutation}
use Rattle.std.specs.Option.{option_map}
use Rattle.std.proofs.lemmas.Bool.{cases_eq, cases_lt}
use Rattle.std.proofs.lemmas.Bool.Decides.{nat_tests}
use Rattle.std.proofs.lemmas.List.Edits.{swapped_from_swap, length-swap}
use Rattle.std.proofs.lemmas.List.Folds.{Any-from_list_any, find_at}
use Rattle.std.proofs.lemmas.List.Sorted.{All-permutation, Contains-permutation, IsPermutation-keeps}
use Rattle.std.proofs.lemmas.List.Sums.{position_or_len_is}
use Rattle.std.proofs.lemmas.Option.{slice_get-get_or}
use Rattle.lbk_ucd.specs.declared.ranges.Row.{Row}
use Rattle.lbk_ucd.specs.Ranges.{IsInOrder, IsRange}
use Rattle.lbk_ucd.specs.Rows.{AreApart, first_value, holds}
use Rattle.lbk_ucd.proofs.OverlayLemmas.{no_value}
use Rattle.lbk_ucd.proofs.RowLemmas.{fails_each}

-- where the row at a place stood before two places were exchanged
abbrev IsOrigin : ℕ → ℕ → ℕ → ℕ → Type 0
IsOrigin a b i n = ((i ≡ a) × (n ≡ b)) ⊎ (((i ≡ b) × (n ≡ a)) ⊎ ((i ≡ a → ⊥) × (i ≡ b → ⊥) × (n ≡ i)))

origins_differ : (a b i j n m : ℕ) → (i ≡ j → ⊥) → IsOrigin a b i n → IsOrigin a b j m → n ≡ m → ⊥
origins_differ a b i j n m other (inl p) (inl q) same = other (p.0 ∙ sym q.0)
origins_differ a b i j n m other (inl p) (inr (inl q)) same = other (p.0 ∙ sym q.1 ∙ sym same ∙ p.1 ∙ sym q.0)
origins_differ a b i j n m other (inl p) (inr (inr q)) same = q.1 (sym q.2 ∙ sym same ∙ p.1)
origins_differ a b i j n m other (inr (inl p)) (inl q) same = other (p.0 ∙ sym q.1 ∙ sym same ∙ p.1 ∙ sym q.0)
origins_differ a b i j n m other (inr (inl p)) (inr (inl q)) same = other (p.0 ∙ sym q.0)
origins_differ a b i j n m other (inr (inl p)) (inr (inr q)) same = q.0 (sym q.2 ∙ sym same ∙ p.1)
origins_differ a b i j n m other (inr (inr p)) (inl q) same = p.1 (sym p.2 ∙ same ∙ q.1)
origins_differ a b i j n m other (inr (inr p)) (inr (inl q)) same = p.0 (sym p.2 ∙ same ∙ q.1)
origins_differ a b i j n m other (inr (inr p)) (inr (inr q)) same = other (sym p.2 ∙ same ∙ q.2)

module _ {V : Type 0} where
  -- no two rows at different places share a code
  abbrev AreAllApart : List (Row V) → Type 0
  AreAllApart rows = (i j : ℕ) (d : Row V) → (i ≡ j → ⊥) → i < length rows → j < length rows → AreApart (get_or rows i d) (get_or rows j d)

  all_apart : (rows : List (Row V)) → AllPairs AreApart rows → AreAllApart rows
  all_apart rows pairs i j d other low high =
      elim (cases_lt i j) [
        | inl less ↦ pairs i j d less high
        | inr not_less ↦ λ code here there. pairs j i d (omega (arith, other)) low code there here
      ]

  origin : (rows : List (Row V)) (a b i : ℕ) (d : Row V) → a < length rows → b < length rows → i < length rows
      → (n : ℕ) × (n < length rows) × (get_or (swap rows a b) i d ≡ get_or rows n d) × IsOrigin a b i n
  origin rows a b i d la lb li =
      let moved = swapped_from_swap rows (swap rows a b) a b d la lb refl in
      elim (cases_eq i a) [
        | inl is ↦ (b, lb, (rw is moved.0), inl (is, refl))
        | inr not_a ↦ elim (cases_eq i b) [
          | inl is ↦ (a, la, (rw is moved.1), inr (inl (is, refl)))
          | inr not_b ↦ (i, li, moved.2 i not_a not_b, inr (inr (not_a, not_b, refl)))
        ]
      ]

  swap_apart : (rows : List (Row V)) (a b : ℕ) → a < length rows → b < length rows → AreAllApart rows → AreAllApart (swap rows a b)
  swap_apart rows a b la lb apart i j d other li lj =
      let len = length-swap rows a b in
      let one = origin rows a b i d la lb (omega arith) in
      let two = origin rows a b j d la lb (omega arith) in
      alike_apart one.2 two.2 (apart one.0 two.0 d (origins_differ a b i j one.0 two.0 other one.3 two.3) one.1 two.1)
    where
      alike_apart : {row row' next next' : Row V} → row ≡ row' → next ≡ next' → AreApart row' next' → AreApart row next
      alike_apart same alike apart code here there = apart code (sym (ap (holds code) same) ∙ here) (sym (ap (holds code) alike) ∙ there)

  pub apart_permuted : (rows sorted : List (Row V)) → IsPermutation rows sorted → AllPairs AreApart rows → AllPairs AreApart sorted
  apart_permuted rows sorted moved apart i j d less lt =
      IsPermutation-keeps rows AreAllApart (all_apart rows apart) swap_apart sorted moved i j d (λ same. omega arith) (omega arith) lt

  -- the value of a code that a row holds, where no two share a code
  value_held : (rows : List (Row V)) (code k : ℕ) (d : Row V) → AllPairs AreApart rows → k < length rows → holds code (get_or rows k d) ≡ true
      → first_value code rows ≡ Some (get_or rows k d).value
  value_held rows code k d apart lt here =
      let place : position_or_len (holds code) rows ≡ k
      = position_or_len_is (holds code) rows k d (omega arith) (λ m less. fails m less (holds code (get_or rows m d)) refl) (λ _. here) in
      let found : find (holds code) rows ≡ Some (get_or rows k d)
      = find_at (holds code) rows ∙ ap (slice_get rows) place ∙ slice_get-get_or rows k d lt in
      ap (option_map (λ row. row.value)) found
    where
      fails : (m : ℕ) → m < k → (passes : Bool) → holds code (get_or rows m d) ≡ passes → holds code (get_or rows m d) ≡ false
      fails m less true is = absurd (apart m k d less lt code is here)
      fails m less false is = is

  pub value_permuted : (rows sorted : List (Row V)) (code : ℕ) → IsPermutation rows sorted → AllPairs AreApart rows
      → first_value code sorted ≡ first_value code rows
  value_permuted rows sorted code moved apart = go (list_any (holds code) rows) refl
    where
      go : (any : Bool) → list_any (holds code) rows ≡ any → first_value code sorted ≡ first_value code rows
      go true is =
          let at = Any-from_list_any (holds code) rows is in
          let there = Contains-permutation rows sorted at.1 moved (at.0, at.2, at.3) in
          value_held sorted code there.0 at.1 (apart_permuted rows sorted moved apart) there.1 (rw there.2 at.4)
          ∙ ap (λ row. Some row.value) (there.2 ∙ sym at.3)
          ∙ sym (value_held rows code at.0 at.1 apart at.2 (rw at.3 at.4))
      go false is =
          let none = fails_each (holds code) rows is in
          no_value sorted code (All-permutation (λ row. holds code row ≡ false) rows sorted moved none) ∙ sym (no_value rows code none)

  -- rows that share no code are in order where their first codes rise
  pub in_order : (rows : List (Row V)) → All IsRange rows → AllPairs AreApart rows → IsNonDecreasingBy (λ row. row.first) rows → IsInOrder rows
  in_order rows each apart rises = record {
    each = each;
    apart = λ i j d less lt. elim (cases_lt (get_or rows i d).last (get_or rows j d).first) [
      | inl ends ↦ ends
      | inr reaches ↦
          let low = rises i j d (omega arith) lt in
          let range = each j d lt in
          absurd (apart i j d less lt (get_or rows j d).first (both (get_or rows i d) (get_or rows j d).first low reaches) (own (get_or rows j d) range.0))
    ];
  }
    where
      both : (row : Row V) (code : ℕ) → row.first ≤ code → code ≤ row.last → holds code row ≡ true
      both row code low high = grind (arith, nat_tests)

      own : (row : Row V) → row.first ≤ row.last → holds row.first row ≡ true
      own row rises = grind (arith, nat_tests)
