-- What is used of pages: that `==` tells them apart, and that equal ones have one digest.
use Rattle.std.proofs.Common.{◌≡◌, ℕ, ◌+◌, ◌-◌, ◌*◌, ◌/◌, ◌%◌, ◌<◌, ◌≤◌, Bool, ◌&&◌, List, [], ◌∷◌, ◌++◌, length, map, get_or, inl, inr, ap, sym, ◌∙◌, arith, below_more, Decides}
use Rattle.std.proofs.Math.Utf8.{scalar_cases}
use Rattle.std.specs.Char.{IsScalar}
use Rattle.std.specs.Cmp.{booleans_Decides}
use Rattle.std.specs.Cmp.Lexicographic.{pointwise}
use Rattle.std.proofs.lemmas.Bool.Decides.{Decides-and, Decides-like}
use Rattle.std.proofs.lemmas.List.{get_or-map, get_or_append_left, get_or_push, length-map, length_push}
use Rattle.std.proofs.lemmas.Slice.Eq.{slice_eq-Decides}
use denote.Enum.Bare.{same_true, true_same, sameb}
use Rattle.lbk_uax14.specs.contracts.classes.Class.{the_type as class_type}
use Rattle.lbk_uax14.specs.contracts.classes.Quote.{the_type as quote_type}
use Rattle.lbk_uax14.specs.contracts.cells.CellPartialEq.TheImpl.{eq-value}
use Rattle.lbk_uax14.specs.declared.cells.Cell.{Cell}
use Rattle.lbk_uax14.specs.declared.classes.Class.{Class}
use Rattle.lbk_uax14.specs.declared.classes.Quote.{Quote}
use Rattle.lbk_uax14.specs.Pages.{AreSame, IsPageOf, cell_in, digest_of, page_at}

pub class_Decides : (one other : Class) → Decides (sameb class_type one other) (one ≡ other)
class_Decides one other = (same_true class_type tt one other, true_same class_type one other)

quote_Decides : (one other : Quote) → Decides (sameb quote_type one other) (one ≡ other)
quote_Decides one other = (same_true quote_type tt one other, true_same quote_type one other)

-- a test of each of five fields decides whether two values are equal
pub five_Decide : {A P Q R S T : Type 0} {one other : A} {p q r s t : Bool}
    → (P → Q → R → S → T → one ≡ other) → (one ≡ other → P × (Q × (R × (S × T))))
    → Decides p P → Decides q Q → Decides r R → Decides s S → Decides t T
    → Decides (p && (q && (r && (s && t)))) (one ≡ other)
five_Decide same parts of_p of_q of_r of_s of_t =
    Decides-like _ (λ all. same all.0 all.1.0 all.1.1.0 all.1.1.1.0 all.1.1.1.1) parts
    (Decides-and _ _ of_p (Decides-and _ _ of_q (Decides-and _ _ of_r (Decides-and _ _ of_s of_t))))

-- cells with the same fields are equal
cell_from_fields : (one other : Cell) → one.class ≡ other.class → one.wide ≡ other.wide → one.pict_cn ≡ other.pict_cn → one.quote ≡ other.quote → one.letter ≡ other.letter → one ≡ other
cell_from_fields one other class wide pict_cn quote letter = λ i. record { class = class i; wide = wide i; pict_cn = pict_cn i; quote = quote i; letter = letter i }

-- `==` of two cells is true exactly where they are equal
pub cell_Decides : (one other : Cell) → Decides (eq-value.it one other) (one ≡ other)
cell_Decides one other = five_Decide (cell_from_fields one other)
    (λ e. (ap (λ c. c.class) e, (ap (λ c. c.wide) e, (ap (λ c. c.pict_cn) e, (ap (λ c. c.quote) e, ap (λ c. c.letter) e)))))
    (class_Decides one.class other.class) (booleans_Decides one.wide other.wide)
    (booleans_Decides one.pict_cn other.pict_cn) (quote_Decides one.quote other.quote) (booleans_Decides one.letter other.letter)

-- `==` of two pages is true exactly where they are equal
pub page_Decides : (one other : List Cell) (r : Bool) → r ≡ pointwise eq-value.it one other → Decides r (one ≡ other)
page_Decides one other r e = slice_eq-Decides cell_Decides one other r e

-- the digest beside a kept page is that page's
pub digest_at : (pages : List (List Cell)) (digests : List ℕ) (i : ℕ) (page : List Cell) → digests ≡ map digest_of pages → i < length pages → get_or pages i [] ≡ page → get_or digests i 0 ≡ digest_of page
digest_at pages digests i page digested below same =
    ap (λ all. get_or all i 0) digested ∙ get_or-map digest_of pages i [] 0 below ∙ ap digest_of same

-- as many digests as pages
pub digests_length : (pages : List (List Cell)) (digests : List ℕ) → digests ≡ map digest_of pages → length digests ≡ length pages
digests_length pages digests digested = ap length digested ∙ length-map pages digest_of

-- a number more leaves the pages of the earlier ones, where their pages stay
pub page_at-earlier : (numbers : List ℕ) (n : ℕ) (before after : List (List Cell)) (i : ℕ) → i < length numbers → get_or numbers i 0 < length before → ((k : ℕ) → k < length before → get_or after k [] ≡ get_or before k []) → page_at (numbers ++ n ∷ []) after i ≡ page_at numbers before i
page_at-earlier numbers n before after i here numbered stay =
    ap (λ m. get_or after m []) (get_or_append_left numbers (n ∷ []) 0 i here) ∙ stay (get_or numbers i 0) numbered

-- the page of the number that came last
pub page_at-last : (numbers : List ℕ) (n i : ℕ) (after : List (List Cell)) → length numbers ≡ i → page_at (numbers ++ n ∷ []) after i ≡ get_or after n []
page_at-last numbers n i after here = ap (λ m. get_or after m []) (get_or_push numbers n 0 i here)

-- a scalar value is below 110000
pub scalar_below : (code : ℕ) → IsScalar code → code < 1114112
scalar_below code scalar = elim (scalar_cases code scalar) [ inl low ↦ omega arith | inr high ↦ high.1 ]

-- where each of the 4,352 pages is that of its codes, each scalar value has its cell
pub cell_in-filled : (cell_of : ℕ → Cell) (numbers : List ℕ) (pages : List (List Cell)) (count : ℕ) → 4352 ≤ count → ((i : ℕ) → i < count → IsPageOf cell_of (256 * i) (page_at numbers pages i)) → (code : ℕ) → IsScalar code → cell_in numbers pages code ≡ cell_of code
cell_in-filled cell_of numbers pages count all filled code scalar =
    let below = scalar_below code scalar in
    let here : 256 * (code / 256) + code % 256 ≡ code = omega arith in
    filled (code / 256) (omega arith) (code % 256) (omega arith) ∙ ap cell_of here

-- a page and the next have the same cells where both lie in a range of one cell
pub next_page-same : (cell_of : ℕ → Cell) (k first last : ℕ) (cell : Cell) (page : List Cell) → AreSame cell_of first last cell → first + 256 ≤ 256 * k → 256 * k + 255 ≤ last → IsPageOf cell_of (256 * (k - 1)) page → IsPageOf cell_of (256 * k) page
next_page-same cell_of k first last cell page same begins ends here i below =
    here i below ∙ (same (256 * (k - 1) + i) (omega arith) (omega arith) ∙ sym (same (256 * k + i) (omega arith) (omega arith)))

-- the first k pages are kept
pub record IsFilledTo (cell_of : ℕ → Cell) (numbers : List ℕ) (pages : List (List Cell)) (k : ℕ) : Type 0 where
  pub counted : length numbers ≡ k
  pub few : length pages ≤ k
  pub numbered : (i : ℕ) → i < k → get_or numbers i 0 < length pages
  pub filled : (i : ℕ) → i < k → IsPageOf cell_of (256 * i) (page_at numbers pages i)

-- one page more
pub filled_more : (cell_of : ℕ → Cell) (numbers : List ℕ) (before after : List (List Cell)) (k n : ℕ)
    → IsFilledTo cell_of numbers before k
    → n < length after
    → ((j : ℕ) → j < length before → get_or after j [] ≡ get_or before j [])
    → length before ≤ length after
    → length after ≤ length before + 1
    → IsPageOf cell_of (256 * k) (get_or after n [])
    → IsFilledTo cell_of (numbers ++ n ∷ []) after (k + 1)
filled_more cell_of numbers before after k n to here stay less more page = record {
  counted = length_push numbers n ∙ (let counted = to.counted in omega arith);
  few = omega (arith, to.few);
  numbered = below_more _ _
      (λ i h. let old = get_or_append_left numbers (n ∷ []) 0 i (let counted = to.counted in omega arith) in let below = to.numbered i h in omega arith)
      (let new = get_or_push numbers n 0 k to.counted in omega (arith, here));
  filled = below_more _ _
      (λ i h. rw (page_at-earlier numbers n before after i (let counted = to.counted in omega arith) (to.numbered i h) stay) (to.filled i h))
      (rw (page_at-last numbers n k after to.counted) page);
}
