-- Rows in the order of their codes: where one that holds a code can stand, and what a search by halves finds.
use Rattle.std.proofs.Common.{◌≡◌, ℕ, suc, ◌<◌, ◌≤◌, Bool, true, false, List, [], ◌∷◌, leb, length, get_or, Some, None, sym, ap, refl, ◌∙◌, arith, inl, inr}
use Rattle.std.specs.List.{All, AllWithin, find, list_any, position_or_len, slice_get}
use Rattle.std.specs.List.Sorted.{IsNonDecreasingBy}
use Rattle.std.specs.Option.{option_map}
use Rattle.std.proofs.lemmas.Bool.{cases_lt, false≢true, le-leb, lt-leb}
use Rattle.std.proofs.lemmas.List.Sums.{position_or_len_is}
use Rattle.std.proofs.lemmas.List.{get_or_default}
use Rattle.std.proofs.lemmas.List.Folds.{find_at, list_any_at, list_any_none}
use Rattle.std.proofs.lemmas.Option.{slice_get-get_or}
use Rattle.std.proofs.lemmas.Bool.Decides.{nat_tests}
use Rattle.lbk_ucd.specs.declared.ranges.Row.{Row}
use Rattle.lbk_ucd.specs.Ranges.{IsInOrder}
use Rattle.lbk_ucd.specs.Rows.{holds, shares, first_value}

module _ {V : Type 0} where
  -- the ends rise
  pub ends_rise : (rows : List (Row V)) → IsInOrder rows → IsNonDecreasingBy (λ row. row.last) rows
  ends_rise rows h i j d le lt =
      elim (cases_lt i j) [
        | inl less ↦ omega (arith, h.apart i j d less lt, (h.each j d lt).0)
        | inr not_less ↦ let same : i ≡ j = omega arith in rw same (omega arith)
      ]

  -- a row that ends before the first of some codes, or begins after the last, shares none of them
  ends_before : (first last : ℕ) (row : Row V) → row.last < first → shares first last row ≡ false
  ends_before first last row h = grind (arith, nat_tests)

  begins_after : (first last : ℕ) (row : Row V) → last < row.first → shares first last row ≡ false
  begins_after first last row h = grind (arith, nat_tests)

  pub meets_within : (first last : ℕ) (row : Row V) → row.first ≤ last → first ≤ row.last → shares first last row ≡ true
  meets_within first last row begins ends = grind (arith, nat_tests)

  -- a row that shares no code and ends in the codes or after them begins after them
  after_codes : (first last : ℕ) (row : Row V) → shares first last row ≡ false → first ≤ row.last → last < row.first
  after_codes first last row h ends = grind (arith, nat_tests)

  -- none of the rows shares a code: those before a place end before the codes, and those from there on begin after them
  pub none_shares : (rows : List (Row V)) (first last at : ℕ) → IsInOrder rows
      → AllWithin (λ row. row.last < first) rows 0 at
      → ((d : Row V) → at < length rows → last < (get_or rows at d).first)
      → All (λ row. shares first last row ≡ false) rows
  none_shares rows first last at h before after k d lt =
      elim (cases_lt k at) [
        | inl less ↦ ends_before first last (get_or rows k d) (before k d (omega arith) less)
        | inr not_less ↦
            let here : last < (get_or rows at d).first = after d (omega arith) in
            elim (cases_lt at k) [
              | inl more ↦ begins_after first last (get_or rows k d) (omega (arith, h.apart at k d more lt, (h.each at d (omega arith)).0))
              | inr not_more ↦
                  let same : k ≡ at = omega arith in
                  rw same (begins_after first last (get_or rows at d) here)
            ]
      ]

  -- the row at a place holds the code
  pub first_value_here : (rows : List (Row V)) (code at : ℕ) (d : Row V) → at < length rows
      → AllWithin (λ row. row.last < code) rows 0 at → holds code (get_or rows at d) ≡ true
      → first_value code rows ≡ Some (get_or rows at d).value
  first_value_here rows code at d lt before here =
      let place : position_or_len (holds code) rows ≡ at
      = position_or_len_is (holds code) rows at d (omega arith) (λ k less. ends_before code code (get_or rows k d) (before k d (omega arith) less)) (λ _. here) in
      let found : find (holds code) rows ≡ Some (get_or rows at d)
      = find_at (holds code) rows ∙ ap (slice_get rows) place ∙ slice_get-get_or rows at d lt in
      ap (option_map (λ row. row.value)) found

  -- what no element passes is found nowhere
  pub find_none : (p : Row V → Bool) (rows : List (Row V)) → All (λ row. p row ≡ false) rows → find p rows ≡ None
  find_none p [] fails = refl
  find_none p (row ∷ rows) fails =
      let none : find p rows ≡ None = find_none p rows (λ k d lt. fails (suc k) d (omega arith)) in
      let head : p row ≡ false = fails 0 row (omega arith) in
      rw (head, none) refl

  -- a list of which no element passes, place by place
  pub fails_each : (p : Row V → Bool) (rows : List (Row V)) → list_any p rows ≡ false → All (λ row. p row ≡ false) rows
  fails_each p rows none k d lt = go (p (get_or rows k d)) refl
    where
      go : (passes : Bool) → p (get_or rows k d) ≡ passes → p (get_or rows k d) ≡ false
      go true is = absurd (false≢true (sym none ∙ list_any_at p rows k d lt is))
      go false is = is

  -- whether a row shares a code is told by the one at the first place where none ends before the codes
  pub told_in_order : (rows : List (Row V)) (first last at : ℕ) (d : Row V) → IsInOrder rows
      → AllWithin (λ row. row.last < first) rows 0 at → AllWithin (λ row. first ≤ row.last) rows at (length rows) → at < length rows
      → leb (get_or rows at d).first last ≡ list_any (shares first last) rows
  told_in_order rows first last at d h before after lt =
      elim (cases_lt last (get_or rows at d).first) [
        | inl ahead ↦
            lt-leb (get_or rows at d).first last ahead
            ∙ sym (list_any_none (shares first last) rows (none_shares rows first last at h before (λ e _. rw (get_or_default rows at e d lt) ahead)))
        | inr meets ↦
            le-leb (get_or rows at d).first last meets
            ∙ sym (list_any_at (shares first last) rows at d lt (meets_within first last (get_or rows at d) meets (after at d (omega arith) lt)))
      ]

  -- a code of a row is in none that shares none with it
  pub elsewhere : (code : ℕ) (new other : Row V) → holds code new ≡ true → shares new.first new.last other ≡ false → holds code other ≡ false
  elsewhere code new other here apart = grind (arith, nat_tests)

  -- the greater of the two first codes is shared, where some code is
  pub shared_code : (first last : ℕ) (row : Row V) → first ≤ last → row.first ≤ row.last → shares first last row ≡ true
      → (code : ℕ) × (first ≤ code) × (code ≤ last) × (holds code row ≡ true)
  shared_code first last row rises rises' meets =
      elim (cases_lt first row.first) [
        | inl less ↦ (row.first, omega arith, grind (arith, nat_tests), grind (arith, nat_tests))
        | inr not_less ↦ (first, omega arith, omega arith, grind (arith, nat_tests))
      ]

  pub shares_code : (first last : ℕ) (row : Row V) (code : ℕ) → first ≤ code → code ≤ last → holds code row ≡ true → shares first last row ≡ true
  shares_code first last row code low high here = grind (arith, nat_tests)
