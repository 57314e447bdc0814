-- Laws of the definitions: of lines, of shared codes and of faults.
use Rattle.std.proofs.Common.{◌≡◌, ℕ, zero, suc, ◌+◌, ◌<◌, ◌≤◌, not, Bool, true, false, List, [], ◌∷◌, ◌++◌, length, get_or, take, append-nil, Option, Some, None, sym, ap, refl, ◌∙◌, arith, inl, inr, ◌⊎◌}
use Rattle.std.specs.List.{AllPairs, cons_option, list_any, list_all, slice_split, onto_first}
use Rattle.std.proofs.lemmas.List.{take_more, take_all}
use Rattle.std.proofs.lemmas.List.Elements.{filter_map-append}
use Rattle.std.proofs.lemmas.List.Quantifiers.{all_pairs_push}
use Rattle.std.proofs.lemmas.Bool.{cases_lt, and_parts}
use Rattle.lbk_ucd.specs.declared.ranges.Row.{Row}
use Rattle.lbk_ucd.specs.declared.faults.UcdCause.{UcdCause}
use Rattle.lbk_ucd.specs.declared.faults.UcdCause.TheVariants.{FileTooLong}
use Rattle.lbk_ucd.specs.Rows.{holds, shares, AreApart}
use Rattle.lbk_ucd.specs.File.{Format, row_in, rows_in, defaults_in, lines_of, cause_at, IsLawfulBefore, IsLawful, IsLineFault, IsFault}
use Rattle.lbk_ucd.proofs.FileLemmas.{lawful_more, apart_line}
use Rattle.lbk_ucd.proofs.RowLemmas.{elsewhere, fails_each}

-- whether a list lacks what passes a test
abbrev lacks : (ℕ → Bool) → List ℕ → Bool
lacks p part = not (list_any p part)

onto_lacks : (p : ℕ → Bool) (x : ℕ) (parts : List (List ℕ)) → p x ≡ false → list_all (lacks p) parts ≡ true → list_all (lacks p) (onto_first x parts) ≡ true
onto_lacks p x [] fails all = rw fails refl
onto_lacks p x (part ∷ parts) fails all =
    let both = and_parts (lacks p part) (list_all (lacks p) parts) all in
    rw (fails, both.0, both.1) refl

-- the parts of a list that is cut hold none of what it is cut at
pub split_lacks : (p : ℕ → Bool) (xs : List ℕ) → list_all (lacks p) (slice_split p xs) ≡ true
split_lacks p [] = refl
split_lacks p (x ∷ xs) = go (p x) refl (split_lacks p xs)
  where
    go : (here : Bool) → p x ≡ here → list_all (lacks p) (slice_split p xs) ≡ true → list_all (lacks p) (slice_split p (x ∷ xs)) ≡ true
    go true is rest = rw is rest
    go false is rest = rw is (onto_lacks p x (slice_split p xs) is rest)

module _ {V : Type 0} where
  -- none of the first lines has a cause, or there is a first that has one
  first_cause : (format : Format V) (lines : List (List ℕ)) (n : ℕ)
      → IsLawfulBefore format lines n
      ⊎ ((k : ℕ) × (cause : UcdCause) × (k < n) × (cause_at format lines k ≡ Some cause) × IsLawfulBefore format lines k)
  first_cause format lines zero = inl (λ earlier lt. absurd (omega arith))
  first_cause format lines (suc n) = go (first_cause format lines n) (cause_at format lines n) refl
    where
      more : n + 1 ≡ suc n
      more = omega arith

      go : (IsLawfulBefore format lines n ⊎ ((k : ℕ) × (cause : UcdCause) × (k < n) × (cause_at format lines k ≡ Some cause) × IsLawfulBefore format lines k))
          → (here : Option UcdCause) → cause_at format lines n ≡ here
          → IsLawfulBefore format lines (suc n)
          ⊎ ((k : ℕ) × (cause : UcdCause) × (k < suc n) × (cause_at format lines k ≡ Some cause) × IsLawfulBefore format lines k)
      go (inr found) here is = inr (found.0, found.1, omega (arith, found.2), found.3, found.4)
      go (inl before) None is = inl (rw more at (lawful_more format lines n before is))
      go (inl before) (Some cause) is = inr (n, cause, omega arith, is, before)

  -- a file is lawful or has a fault
  pub lawful_or_fault : (format : Format V) (bytes : List ℕ) → IsLawful format bytes ⊎ ((number : ℕ) × (cause : UcdCause) × IsFault format bytes number cause)
  lawful_or_fault format bytes =
      elim (cases_lt 8388608 (length bytes)) [
        | inl long ↦ inr (0, FileTooLong, inl (long, refl, refl))
        | inr short ↦ elim (first_cause format (lines_of bytes) (length (lines_of bytes))) [
          | inl all ↦ inl (record { short = short; lines = all })
          | inr found ↦ inr (
            found.0 + 1,
            found.1,
            inr (record {
              short = short;
              index = found.0;
              within = found.2;
              counted = refl;
              here = found.3;
              before = found.4;
            }),
          )
        ]
      ]

  pub lawful_no_fault : (format : Format V) (bytes : List ℕ) (number : ℕ) (cause : UcdCause) → IsLawful format bytes → IsFault format bytes number cause → ⊥
  lawful_no_fault format bytes number cause lawful (inl long) = absurd (omega (arith, lawful.short, long.0))
  lawful_no_fault format bytes number cause lawful (inr fault) =
      let none = lawful.lines fault.index fault.within in
      let some = fault.here in
      cc

  same_line : (format : Format V) (bytes : List ℕ) (m n : ℕ) (c d : UcdCause) → IsLineFault format bytes m c → IsLineFault format bytes n d → (m ≡ n) × (c ≡ d)
  same_line format bytes m n c d a b =
      elim (cases_lt a.index b.index) [
        | inl less ↦ let none = b.before a.index less in let some = a.here in cc
        | inr not_less ↦ elim (cases_lt b.index a.index) [
          | inl more ↦ let none = a.before b.index more in let some = b.here in cc
          | inr not_more ↦
              let same : a.index ≡ b.index = omega arith in
              let counted = a.counted in
              let counted' = b.counted in
              let causes : Some c ≡ Some d = sym a.here ∙ (ap (cause_at format (lines_of bytes)) same ∙ b.here) in
              (omega arith, cc)
        ]
      ]

  pub one_fault : (format : Format V) (bytes : List ℕ) (m n : ℕ) (c d : UcdCause) → IsFault format bytes m c → IsFault format bytes n d → (m ≡ n) × (c ≡ d)
  one_fault format bytes m n c d (inl a) (inl b) = (a.1 ∙ sym b.1, a.2 ∙ sym b.2)
  one_fault format bytes m n c d (inl a) (inr b) = absurd (omega (arith, a.0, b.short))
  one_fault format bytes m n c d (inr a) (inl b) = absurd (omega (arith, b.0, a.short))
  one_fault format bytes m n c d (inr a) (inr b) = same_line format bytes m n c d a b

  -- the kept rows of the first lines, of which none has a cause
  rows_apart : (format : Format V) (lines : List (List ℕ)) (k : ℕ) → k ≤ length lines → IsLawfulBefore format lines k
      → AllPairs AreApart (rows_in format (take k lines))
  rows_apart format lines zero fits before = λ i j d less lt. absurd (omega arith)
  rows_apart format lines (suc k) fits before =
      let one : k + 1 ≡ suc k = omega arith in
      let within : k < length lines = omega arith in
      let taken : take (suc k) lines ≡ take k lines ++ get_or lines k [] ∷ [] = rw one at (take_more lines k [] within) in
      let earlier : AllPairs AreApart (rows_in format (take k lines)) = rows_apart format lines k (omega arith) (λ e lt. before e (omega arith)) in
      rw taken (go earlier (before k (omega arith)) (row_in format (get_or lines k [])) refl)
    where
      go : AllPairs AreApart (rows_in format (take k lines)) → cause_at format lines k ≡ None
          → (kept : Option (Row V)) → row_in format (get_or lines k []) ≡ kept
          → AllPairs AreApart (rows_in format (take k lines ++ get_or lines k [] ∷ []))
      go earlier none None is =
          let same : rows_in format (take k lines ++ get_or lines k [] ∷ []) ≡ rows_in format (take k lines)
          = filter_map-append (row_in format) (take k lines) (get_or lines k [] ∷ [])
          ∙ (ap (λ o. rows_in format (take k lines) ++ cons_option o []) is ∙ append-nil (rows_in format (take k lines))) in
          rw same earlier
      go earlier none (Some kept) is =
          let rows = rows_in format (take k lines) in
          let more : rows_in format (take k lines ++ get_or lines k [] ∷ []) ≡ rows ++ kept ∷ []
          = filter_map-append (row_in format) (take k lines) (get_or lines k [] ∷ [])
          ∙ ap (λ o. rows ++ cons_option o []) is in
          let apart = apart_line format rows (length rows + length (defaults_in format (take k lines))) (get_or lines k []) kept none is in
          rw more (all_pairs_push AreApart rows kept earlier (λ i d lt code here there.
          let none' : holds code (get_or rows i d) ≡ false
          = elsewhere code kept (get_or rows i d) there (fails_each (shares kept.first kept.last) rows apart i d lt) in
          cc))

  pub kept_apart : (format : Format V) (bytes : List ℕ) → IsLawful format bytes → AllPairs AreApart (rows_in format (lines_of bytes))
  kept_apart format bytes lawful =
      let whole : take (length (lines_of bytes)) (lines_of bytes) ≡ lines_of bytes = take_all (length (lines_of bytes)) (lines_of bytes) (omega arith) in
      rw whole at (rows_apart format (lines_of bytes) (length (lines_of bytes)) (omega arith) lawful.lines)
