-- Rows laid over others, step by step, and the marks of the codes that rows hold.
use Rattle.std.proofs.Common.{◌≡◌, ℕ, suc, ◌+◌, ◌-◌, ◌<◌, ◌≤◌, ◌⊎◌, Bool, ◌||◌, true, false, List, [], ◌∷◌, ◌++◌, length, get_or, reverse, Option, Some, None, Result, Ok, Err, IfOk, unwrap_or, sym, ap, refl, ◌∙◌, arith, inl, inr}
use Rattle.std.specs.List.{All, AllPairs, find, list_any}
use Rattle.std.specs.Option.{option_map, option_or}
use Rattle.std.proofs.lemmas.Bool.{cases_lt, false≢true}
use Rattle.std.proofs.lemmas.Bool.Decides.{nat_tests}
use Rattle.std.proofs.lemmas.List.{reverse-append}
use Rattle.std.proofs.lemmas.List.Elements.{All-push}
use Rattle.std.proofs.lemmas.List.Folds.{find-append, list_any-append, list_any_at, list_any_none}
use Rattle.std.proofs.lemmas.List.Quantifiers.{all_pairs_push}
use Rattle.lbk_ucd.specs.declared.ranges.Row.{Row}
use Rattle.lbk_masks.specs.Bits.{is_marked}
use Rattle.lbk_ucd.specs.Ranges.{AreMarked, IsInOrder, IsOverlay, IsRange, IsStretch}
use Rattle.lbk_ucd.specs.Rows.{holds, shares, first_value, value_at, AreApart}
use Rattle.lbk_ucd.proofs.RowLemmas.{elsewhere, fails_each, find_none, shared_code}

-- the first of two options, through a function or before a value in its place
map_or : {A B : Type 0} (f : A → B) (one other : Option A) → option_map f (option_or one other) ≡ option_or (option_map f one) (option_map f other)
map_or f (Some x) other = refl
map_or f None other = refl

or_true : (a : Bool) → (a || true) ≡ true
or_true true = refl
or_true false = refl

swapped : (a b : Bool) → (a || (b || false)) ≡ (b || a)
swapped true true = refl
swapped true false = refl
swapped false true = refl
swapped false false = refl

or_none : {A : Type 0} (one : Option A) → option_or one None ≡ one
or_none (Some x) = refl
or_none None = refl

unwrap_or_or : {A : Type 0} (one other : Option A) (value : A) → unwrap_or (option_or one other) value ≡ unwrap_or one (unwrap_or other value)
unwrap_or_or (Some x) other value = refl
unwrap_or_or None other value = refl

-- what holds of a result that is there holds with what follows from it
pub if_ok : {A E : Type 0} {P Q : A → Type 0} (result : Result A E) → ((x : A) → P x → Q x) → IfOk result P → IfOk result Q
if_ok (Ok x) follows here = follows x here
if_ok (Err e) follows here = tt

-- a stretch by its parts
pub stretch : {A : Type 0} {value_at : ℕ → A} {code last : ℕ} {value : A} → (code ≤ 0x10FFFF → code ≤ last) → last ≤ 0x10FFFF
    → ((k : ℕ) → code ≤ k → k ≤ last → value_at k ≡ value) → IsStretch value_at code last value
stretch onward most same = record { onward = onward; most = most; same = same }

module _ {V : Type 0} where
  ended : (code : ℕ) (row : Row V) → row.last < code → holds code row ≡ false
  ended code row h = grind (arith, nat_tests)

  ahead : (code : ℕ) (row : Row V) → code < row.first → holds code row ≡ false
  ahead code row h = grind (arith, nat_tests)

  within : (code : ℕ) (row : Row V) → row.first ≤ code → code ≤ row.last → holds code row ≡ true
  within code row low high = grind (arith, nat_tests)

  -- a code that no row holds has no value
  pub no_value : (rows : List (Row V)) (code : ℕ) → All (λ row. holds code row ≡ false) rows → first_value code rows ≡ None
  no_value rows code none = ap (option_map (λ row. row.value)) (find_none (holds code) rows none)

  -- nor has one behind the greatest code
  pub beyond : (rows : List (Row V)) (code : ℕ) → IsInOrder rows → 0x10FFFF < code → first_value code rows ≡ None
  beyond rows code h more = no_value rows code (λ k d lt. ended code (get_or rows k d) (omega (arith, (h.each k d lt).1)))

  -- the value in a list of two parts
  value-append : (rows later : List (Row V)) (code : ℕ) → first_value code (rows ++ later) ≡ option_or (first_value code rows) (first_value code later)
  value-append rows later code =
      ap (option_map (λ row. row.value)) (find-append (holds code) rows later)
      ∙ map_or (λ row. row.value) (find (holds code) rows) (find (holds code) later)

  -- the value in a list of one row
  value_alone : (code : ℕ) (row : Row V) → holds code row ≡ true → first_value code (row ∷ []) ≡ Some row.value
  value_alone code row here = rw here refl

  value_alone_not : (code : ℕ) (row : Row V) → holds code row ≡ false → first_value code (row ∷ []) ≡ None
  value_alone_not code row here = rw here refl

  -- a row behind rows that end before it
  in_order_push : (rows : List (Row V)) (row : Row V) → IsInOrder rows → All (λ other. other.last < row.first) rows → IsRange row → IsInOrder (rows ++ row ∷ [])
  in_order_push rows row h ends range = record {
    each = All-push IsRange rows row h.each range;
    apart = all_pairs_push (λ one later. one.last < later.first) rows row h.apart ends;
  }

  -- the codes before one are done
  pub record IsDone (under over rows : List (Row V)) (from : ℕ) : Type 0 where
    pub ordered : IsInOrder rows
    pub ends : All (λ row. row.last < from) rows
    pub values : (code : ℕ) → code < from → first_value code rows ≡ option_or (first_value code over) (first_value code under)

  pub nothing_done : (under over : List (Row V)) → IsDone under over [] 0
  nothing_done under over = record {
    ordered = record { each = λ k d lt. absurd (omega arith); apart = λ i j d less lt. absurd (omega arith) };
    ends = λ k d lt. absurd (omega arith);
    values = λ code lt. absurd (omega arith);
  }

  module _ (under over rows : List (Row V)) (from last : ℕ) (done : IsDone under over rows from) (rises : from ≤ last) where
    none_here : (code : ℕ) → from ≤ code → All (λ row. holds code row ≡ false) rows
    none_here code le k d lt = ended code (get_or rows k d) (omega (arith, done.ends k d lt))

    -- the codes up to last have no value
    pub done_none : ((code : ℕ) → from ≤ code → code ≤ last → option_or (first_value code over) (first_value code under) ≡ None)
        → IsDone under over rows (last + 1)
    done_none same = record {
      ordered = done.ordered;
      ends = λ k d lt. omega (arith, done.ends k d lt);
      values = λ code lt. elim (cases_lt code from) [
        | inl less ↦ done.values code less
        | inr not_less ↦ no_value rows code (none_here code not_less) ∙ sym (same code not_less (omega arith))
      ];
    }

    -- the codes up to last have this value
    pub done_some : (value : V) → last ≤ 0x10FFFF
        → ((code : ℕ) → from ≤ code → code ≤ last → option_or (first_value code over) (first_value code under) ≡ Some value)
        → IsDone under over (rows ++ record { first = from; last = last; value = value } ∷ []) (last + 1)
    done_some value most same = record {
      ordered = in_order_push rows new done.ordered done.ends (rises, most);
      ends = All-push (λ row. row.last < last + 1) rows new (λ k d lt. omega (arith, done.ends k d lt)) (omega arith);
      values = λ code lt. elim (cases_lt code from) [
        | inl less ↦
            value-append rows (new ∷ []) code ∙ (rw (value_alone_not code new (ahead code new less)) (or_none (first_value code rows) ∙ done.values code less))
        | inr not_less ↦
            let none : first_value code rows ≡ None = no_value rows code (none_here code not_less) in
            let here : first_value code (new ∷ []) ≡ Some value = value_alone code new (within code new not_less (omega arith)) in
            value-append rows (new ∷ []) code ∙ (rw (none, here) (sym (same code not_less (omega arith))))
      ];
    }
      where
        new : Row V
        new = record { first = from; last = last; value = value }

  -- at the end all codes are
  pub all_done : (under over rows : List (Row V)) (from : ℕ) → IsInOrder under → IsInOrder over → IsDone under over rows from → 0x10FFFF < from
      → IsOverlay under over rows
  all_done under over rows from h k done past code =
      elim (cases_lt code from) [
        | inl less ↦ done.values code less
        | inr not_less ↦ rw (beyond rows code done.ordered (omega arith), beyond over code k (omega arith), beyond under code h (omega arith)) refl
      ]

  -- a search from the end finds the same, where no two pass
  find-reverse : (p : Row V → Bool) (rows : List (Row V)) → AllPairs (λ one other. p one ≡ true → p other ≡ true → ⊥) rows → find p (reverse rows) ≡ find p rows
  find-reverse p [] one = refl
  find-reverse p (row ∷ rows) one =
      ap (find p) (reverse-append (row ∷ []) rows)
      ∙ (find-append p (reverse rows) (row ∷ [])
      ∙ (ap (λ found. option_or found (find p (row ∷ []))) (find-reverse p rows (λ i j d less lt. one (suc i) (suc j) d (omega arith) (omega arith)))
      ∙ go (p row) refl))
    where
      go : (passes : Bool) → p row ≡ passes → option_or (find p rows) (find p (row ∷ [])) ≡ find p (row ∷ rows)
      go true is =
          let none : find p rows ≡ None = find_none p rows (λ k d lt. fails (get_or rows k d) (one 0 (suc k) d (omega arith) (omega arith) is) (p (get_or rows k d)) refl) in
          rw (none, is) refl
        where
          fails : (other : Row V) → (p other ≡ true → ⊥) → (passes : Bool) → p other ≡ passes → p other ≡ false
          fails other not_it true it = absurd (not_it it)
          fails other not_it false it = it
      go false is = rw is (or_none (find p rows))

  -- one row further
  pub ordered_more : (rows : List (Row V)) (next : ℕ) → All IsRange rows → 1 ≤ next → next < length rows
      → ((i j : ℕ) (d : Row V) → i < j → j < next → (get_or rows i d).last < (get_or rows j d).first)
      → ((d : Row V) → (get_or rows (next - 1) d).last < (get_or rows next d).first)
      → (i j : ℕ) (d : Row V) → i < j → j < next + 1 → (get_or rows i d).last < (get_or rows j d).first
  ordered_more rows next ranges positive within before here i j d less lt =
      elim (cases_lt j next) [
        | inl earlier ↦ before i j d less earlier
        | inr not_earlier ↦
            let same : j ≡ next = omega arith in
            rw same (elim (cases_lt i (next - 1)) [
              | inl further ↦ omega (arith, before i (next - 1) d further (omega arith), here d, (ranges (next - 1) d (omega arith)).0)
              | inr not_further ↦ let last : i ≡ next - 1 = omega arith in rw last (here d)
            ])
      ]

  -- rows of which no two share a code have the same values from the end
  pub value-reverse : (rows : List (Row V)) (code : ℕ) → AllPairs AreApart rows → first_value code (reverse rows) ≡ first_value code rows
  value-reverse rows code apart =
      ap (option_map (λ row. row.value)) (find-reverse (holds code) rows (λ i j d less lt. apart i j d less lt code))

  pub in_order_apart : (rows : List (Row V)) → IsInOrder rows → AllPairs AreApart rows
  in_order_apart rows h i j d less lt code here there =
      let apart = h.apart i j d less lt in
      let none = ended code (get_or rows i d) in
      let before = ahead code (get_or rows j d) in
      absurd (elim (cases_lt (get_or rows i d).last code) [
        | inl past ↦ false≢true (sym (none past) ∙ here)
        | inr not_past ↦ false≢true (sym (before (omega arith)) ∙ there)
      ])

  -- the last value in a list of two parts
  pub last_value-append : (rows later : List (Row V)) (code : ℕ)
      → first_value code (reverse (rows ++ later)) ≡ option_or (first_value code (reverse later)) (first_value code (reverse rows))
  last_value-append rows later code =
      ap (first_value code) (reverse-append rows later) ∙ value-append (reverse later) (reverse rows) code

  -- what the rows assign that are laid over the defaults
  pub assigned_value : (rows defaults flat_rows flat_defaults result : List (Row V)) (unlisted : V) (code : ℕ) → AllPairs AreApart rows
      → first_value code flat_rows ≡ first_value code (reverse rows) → first_value code flat_defaults ≡ first_value code (reverse defaults)
      → IsOverlay flat_defaults flat_rows result
      → unwrap_or (first_value code result) unlisted ≡ value_at rows defaults unlisted code
  assigned_value rows defaults flat_rows flat_defaults result unlisted code apart same_rows same_defaults over =
      rw (over code, same_rows, same_defaults, value-reverse rows code apart)
      (unwrap_or_or (first_value code rows) (first_value code (reverse defaults)) unlisted)

  any_push : (p : Row V → Bool) (rows : List (Row V)) (row : Row V) → list_any p (rows ++ row ∷ []) ≡ (p row || list_any p rows)
  any_push p rows row = list_any-append p rows (row ∷ []) ∙ swapped (list_any p rows) (p row)

  -- one more row that shares no code with those before it
  pub apart_more : (rows : List (Row V)) (row : Row V) → AllPairs AreApart rows → list_any (shares row.first row.last) rows ≡ false → AllPairs AreApart (rows ++ row ∷ [])
  apart_more rows row apart none = all_pairs_push AreApart rows row apart (λ k d lt code here there.
      false≢true (sym (elsewhere code row (get_or rows k d) there (fails_each (shares row.first row.last) rows none k d lt)) ∙ here))

  -- one more row, whose codes are marked
  pub marked_more : (rows : List (Row V)) (row : Row V) (old new : List ℕ) → AreMarked rows old
      → ((k : ℕ) → row.first ≤ k → k ≤ row.last → is_marked new k ≡ true)
      → ((k : ℕ) → (k < row.first) ⊎ (row.last < k) → is_marked new k ≡ is_marked old k)
      → AreMarked (rows ++ row ∷ []) new
  marked_more rows row old new marked inside outside code =
      elim (cases_lt code row.first) [
        | inl before ↦ other (inl before) (ahead code row before)
        | inr not_before ↦ elim (cases_lt row.last code) [
          | inl past ↦ other (inr past) (ended code row past)
          | inr not_past ↦ inside code not_before not_past ∙ sym (any_push (holds code) rows row ∙ (rw (within code row not_before not_past) refl))
        ]
      ]
    where
      other : (code < row.first) ⊎ (row.last < code) → holds code row ≡ false → is_marked new code ≡ list_any (holds code) (rows ++ row ∷ [])
      other out none = outside code out ∙ (marked code ∙ sym (any_push (holds code) rows row ∙ (rw none refl)))

  -- a list of which an element passes has one that passes a wider test
  any_wider : (p q : Row V → Bool) (rows : List (Row V)) → ((row : Row V) → p row ≡ true → q row ≡ true) → list_any p rows ≡ true → list_any q rows ≡ true
  any_wider p q [] wider some = some
  any_wider p q (row ∷ rows) wider some = go (p row) refl (any_wider p q rows wider)
    where
      go : (passes : Bool) → p row ≡ passes → (list_any p rows ≡ true → list_any q rows ≡ true) → list_any q (row ∷ rows) ≡ true
      go true is more = rw (wider row is) refl
      go false is more = rw (more (rw is at some)) (or_true (q row))

  -- a marked code of a range is shared
  pub shares_marked : (rows : List (Row V)) (words : List ℕ) (first last k : ℕ) → AreMarked rows words → first ≤ k → k ≤ last
      → is_marked words k ≡ true → list_any (shares first last) rows ≡ true
  shares_marked rows words first last k marked low high here =
      any_wider (holds k) (shares first last) rows (λ row held. grind (arith, nat_tests)) (sym (marked k) ∙ here)

  -- and with no marked code none is
  pub shares_unmarked : (rows : List (Row V)) (words : List ℕ) (first last : ℕ) → All IsRange rows → AreMarked rows words → first ≤ last
      → ((k : ℕ) → first ≤ k → k ≤ last → is_marked words k ≡ false) → list_any (shares first last) rows ≡ false
  shares_unmarked rows words first last ranges marked rises none = list_any_none (shares first last) rows (λ k d lt. go k d lt (shares first last (get_or rows k d)) refl)
    where
      go : (k : ℕ) (d : Row V) → k < length rows → (meets : Bool) → shares first last (get_or rows k d) ≡ meets → shares first last (get_or rows k d) ≡ false
      go k d lt false is = is
      go k d lt true is =
          let found = shared_code first last (get_or rows k d) rises (ranges k d lt).0 is in
          absurd (false≢true (sym (none found.0 found.1 found.2) ∙ (marked found.0 ∙ list_any_at (holds found.0) rows k d lt found.3)))
