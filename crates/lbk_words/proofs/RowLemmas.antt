-- The table has the steps of all rows.
use Rattle.std.proofs.Common.{◌≡◌, ℕ, ◌<◌, Bool, true, false, cond, ◌&&◌, ◌||◌, ◌==◌, nat_lt, slice_index, refl, sym, ap, ap₂, ◌∙◌, arith, eqb-true, ltb-true, lit<, slice_index_or}
use Rattle.std.specs.Bool.{beq}
use Rattle.std.proofs.lemmas.Bool.{and_parts}
use Rattle.ucd_table.proofs.Facts.{same_from_beq}
use Rattle.ucd_table.proofs.TrieCheck.{all_below, all_below-at}
use Rattle.ucd_breaks.specs.WordBreak.{word_break, word_break_number}
use Rattle.ucd_breaks.specs.declared.WordBreak.{WordBreak}
use Rattle.ucd_breaks.specs.declared.WordBreak.TheVariants.{HebrewLetter, ALetter, Numeric}
use Rattle.ucd_breaks.proofs.WordBreakLemmas.{word_break_number_injective}
use Rattle.ucd_emoji.specs.Binary.{is_extended_pictographic}
use Rattle.lbk_words.specs.declared.step_table.TheConstants.{ANSWERS, ARE_WORDS, FIRST_ROWS}
use Rattle.unicode_segmentation.specs.Word.{is_ignored}
use Rattle.lbk_words.specs.Contexts.{Context, context_after}
use Rattle.lbk_words.specs.Kinds.{kind_letter, kind_pict, kind_value}
use Rattle.lbk_words.specs.Rows.{IsFirstRow, IsStep, answer_like, answer_number, answer_value, breaks_value, canonical, row_context, row_word, start_context, step_number, told}
use Rattle.lbk_words.proofs.KindTrie.{IsKind}
use Rattle.lbk_words.proofs.LikeLemmas.{answered, like-after, like-breaks}

abbrev same_context : Context → Context → Bool
same_context x y =
    (word_break_number x.last == word_break_number y.last) && ((word_break_number x.left == word_break_number y.left)
    && ((word_break_number x.far_left == word_break_number y.far_left) && beq x.half_flag y.half_flag))

same_context-true : (x y : Context) → same_context x y ≡ true → x ≡ y
same_context-true x y same =
    let last = and_parts _ _ same in
    let left = and_parts _ _ last.1 in
    let far = and_parts _ _ left.1 in
    let made : WordBreak → WordBreak → WordBreak → Bool → Context = λ a b c d. record { last = a; left = b; far_left = c; half_flag = d } in
    ap₂ (λ a b. made a b x.far_left x.half_flag) (word_break_number_injective _ _ (eqb-true _ _ last.0)) (word_break_number_injective _ _ (eqb-true _ _ left.0))
    ∙ ap₂ (λ c d. made y.last y.left c d) (word_break_number_injective _ _ (eqb-true _ _ far.0)) (same_from_beq _ _ far.1)

abbrev same_for_all : ℕ → ℕ → Bool → Bool
same_for_all row kind b = all_below (λ a. beq (breaks_value (row_context row) (kind_value kind) (kind_pict kind) (answer_value a)) b) 4

abbrev rule_says : ℕ → ℕ → ℕ → Bool
rule_says answer row kind = breaks_value (row_context row) (kind_value kind) (kind_pict kind) (answer_value answer)

abbrev next_right : ℕ → ℕ → ℕ → Bool
next_right answer row kind =
    let step = told (step_number answer row kind) in nat_lt step.next 43 && beq step.cuts (rule_says answer row kind)

abbrev words_right : ℕ → ℕ → ℕ → Bool
words_right answer row kind =
    let step = told (step_number answer row kind) in
    let b = rule_says answer row kind in
    beq step.counts (b && row_word row) && beq (row_word step.next) (cond b (kind_letter kind) (row_word row || kind_letter kind))

abbrev context_right : ℕ → ℕ → ℕ → Bool
context_right answer row kind =
    same_context (canonical (cond (rule_says answer row kind) (context_after start_context (kind_value kind)) (context_after (row_context row) (kind_value kind))))
    (row_context (told (step_number answer row kind)).next)

abbrev asks_right : ℕ → ℕ → ℕ → Bool
asks_right answer row kind = (told (step_number answer row kind)).asks || same_for_all row kind (rule_says answer row kind)

abbrev is_right : ℕ → ℕ → ℕ → Bool
is_right answer row kind = next_right answer row kind && (words_right answer row kind && (context_right answer row kind && asks_right answer row kind))

all_right : all_below (λ answer. all_below (λ row. all_below (λ kind. is_right answer row kind) 32) 43) 4 ≡ true
unfolding all_below
all_right = refl

right-at : (answer row kind : ℕ) → answer < 4 → row < 43 → kind < 32 → is_right answer row kind ≡ true
right-at answer row kind a r k =
    all_below-at (λ kind. is_right answer row kind) 32 kind
    (all_below-at (λ row. all_below (λ kind. is_right answer row kind) 32) 43 row
    (all_below-at (λ answer. all_below (λ row. all_below (λ kind. is_right answer row kind) 32) 43) 4 answer all_right a) r) k

unasked-part : (answer row kind : ℕ) → is_right answer row kind ≡ true → asks_right answer row kind ≡ true
unasked-part answer row kind right =
    let all = and_parts (next_right answer row kind) (words_right answer row kind && (context_right answer row kind && asks_right answer row kind)) right in
    let rest = and_parts (words_right answer row kind) (context_right answer row kind && asks_right answer row kind) all.1 in
    (and_parts (context_right answer row kind) (asks_right answer row kind) rest.1).1

-- what a step is, where the rules say of the row what the table says
step-is : (answer row c kind : ℕ) (far : WordBreak) → answer < 4 → row < 43 → IsKind c kind
    → breaks_value (row_context row) (kind_value kind) (kind_pict kind) (answer_like far) ≡ breaks_value (row_context row) (kind_value kind) (kind_pict kind) (answer_value answer)
    → IsStep row c far (told (step_number answer row kind))
step-is answer row c kind far a r is same =
    let step = told (step_number answer row kind) in
    let x = row_context row in
    let value = kind_value kind in
    let b = breaks_value x value (kind_pict kind) (answer_value answer) in
    let all = and_parts _ _ (right-at answer row kind a r is.few) in
    let next = and_parts _ _ all.0 in
    let rest = and_parts _ _ all.1 in
    let words = and_parts _ _ rest.0 in
    let more = and_parts _ _ rest.1 in
    let cuts : step.cuts ≡ b = same_from_beq _ _ next.1 in
    let like : canonical (cond b (context_after start_context value) (context_after x value)) ≡ row_context step.next = same_context-true _ _ more.0 in
    record {
      next = ltb-true step.next 43 next.0;
      counts = same_from_beq _ _ words.0 ∙ ap (λ t. t && row_word row) (sym cuts);
      cuts = λ y is_row.
          like-breaks y (word_break c) (is_extended_pictographic c) far
          ∙ ap (λ z. breaks_value z (word_break c) (is_extended_pictographic c) (answer_like far)) is_row
          ∙ ap₂ (λ v p. breaks_value x v p (answer_like far)) (sym is.value) (sym is.pict)
          ∙ same ∙ sym cuts;
      joined = λ goes y is_row.
          sym (like-after y (word_break c))
          ∙ ap (λ z. canonical (context_after z (word_break c))) is_row
          ∙ ap (λ v. canonical (context_after x v)) (sym is.value)
          ∙ ap (λ t. canonical (cond t (context_after start_context value) (context_after x value))) (sym (sym cuts ∙ goes))
          ∙ like;
      fresh = λ ends.
          ap (λ v. canonical (context_after start_context v)) (sym is.value)
          ∙ ap (λ t. canonical (cond t (context_after start_context value) (context_after x value))) (sym (sym cuts ∙ ends))
          ∙ like;
      word =
          same_from_beq _ _ words.1
          ∙ ap₂ (λ t l. cond t l (row_word row || l)) (sym cuts) is.letter;
    }

pub few-answers : (v : WordBreak) → answer_number v < 4
few-answers HebrewLetter = lit< tt
few-answers ALetter = lit< tt
few-answers Numeric = lit< tt
few-answers _ = lit< tt

-- where the table does not ask
pub step-unasked : (row c kind : ℕ) (far : WordBreak) → row < 43 → IsKind c kind → (told (step_number 0 row kind)).asks ≡ false
    → IsStep row c far (told (step_number 0 row kind))
step-unasked row c kind far r is quiet =
    let b = breaks_value (row_context row) (kind_value kind) (kind_pict kind) (answer_value 0) in
    let every : same_for_all row kind b ≡ true =
    ap (λ t. t || same_for_all row kind b) (sym quiet) ∙ unasked-part 0 row kind (right-at 0 row kind (omega arith) r is.few) in
    step-is 0 row c kind far (omega arith) r is
    (ap (breaks_value (row_context row) (kind_value kind) (kind_pict kind)) (sym (answered far))
    ∙ same_from_beq _ _ (all_below-at (λ a. beq (breaks_value (row_context row) (kind_value kind) (kind_pict kind) (answer_value a)) b) 4 (answer_number far) every (few-answers far)))

-- where it asks
pub step-asked : (row c kind : ℕ) (far : WordBreak) → row < 43 → IsKind c kind → answer_number far < 4
    → IsStep row c far (told (step_number (answer_number far) row kind))
step-asked row c kind far r is few =
    step-is (answer_number far) row c kind far few r is
    (ap (breaks_value (row_context row) (kind_value kind) (kind_pict kind)) (sym (answered far)))

-- the first rows
abbrev first_right : ℕ → Bool
first_right kind =
    let row = slice_index FIRST_ROWS kind in
    nat_lt row 43 && (beq (row_word row) (kind_letter kind) && same_context (canonical (context_after start_context (kind_value kind))) (row_context row))

firsts_right : all_below first_right 32 ≡ true
unfolding all_below
firsts_right = refl

pub first-row : (c kind : ℕ) → IsKind c kind → IsFirstRow c (slice_index FIRST_ROWS kind)
first-row c kind is =
    let all = and_parts _ _ (all_below-at first_right 32 kind firsts_right is.few) in
    let rest = and_parts _ _ all.1 in
    record {
      few = ltb-true _ 43 all.0;
      context = ap (λ v. canonical (context_after start_context v)) (sym is.value) ∙ same_context-true _ _ rest.1;
      word = same_from_beq _ _ rest.0 ∙ is.letter;
    }

-- the rows of words
listed_right : all_below (λ row. beq (slice_index_or ARE_WORDS row false) (row_word row)) 43 ≡ true
unfolding all_below
listed_right = refl

pub word-at : (row : ℕ) → row < 43 → slice_index_or ARE_WORDS row false ≡ row_word row
word-at row few = same_from_beq _ _ (all_below-at (λ row. beq (slice_index_or ARE_WORDS row false) (row_word row)) 43 row listed_right few)

-- the answers
abbrev answer_right : ℕ → Bool
answer_right kind = slice_index ANSWERS kind == cond (is_ignored (kind_value kind)) 4 (answer_number (kind_value kind))

answers_right : all_below answer_right 32 ≡ true
unfolding all_below
answers_right = refl

pub answer-at : (c kind : ℕ) → IsKind c kind → slice_index ANSWERS kind ≡ cond (is_ignored (word_break c)) 4 (answer_number (word_break c))
answer-at c kind is =
    eqb-true _ _ (all_below-at answer_right 32 kind answers_right is.few) ∙ ap (λ v. cond (is_ignored v) 4 (answer_number v)) is.value
