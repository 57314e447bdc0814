-- Bytes below 128: their kinds, and the steps from them.
use Rattle.std.proofs.Common.{◌≡◌, ℕ, ◌<◌, Bool, true, false, not, cond, ◌&&◌, ◌||◌, ◌==◌, nat_lt, List, [], ◌∷◌, slice_index, slice_index_or, ltb-true, refl, sym, ap, ap₂, ◌∙◌, eqb-true, arith}
use Rattle.std.specs.Bool.{beq}
use Rattle.std.proofs.lemmas.Bool.{and_parts, not-true}
use Rattle.ucd_table.proofs.Computing.{tables}
use Rattle.ucd_table.proofs.Facts.{Stepped-below, passes_below, same_from_beq}
use Rattle.ucd_breaks.proofs.WordBreakLemmas.{word_break_stepped}
use Rattle.ucd_category.proofs.GeneralCategoryLemmas.{general_category_stepped}
use Rattle.ucd_emoji.proofs.BinaryLemmas.{is_extended_pictographic_stepped}
use Rattle.ucd_table.proofs.TrieCheck.{all_below, all_below-at}
use Rattle.unicode_segmentation.specs.Word.{is_ignored}
use Rattle.lbk_words.specs.declared.step_table.TheConstants.{FIRST_ROWS}
use Rattle.lbk_words.specs.declared.steps.Step.{Step}
use Rattle.lbk_words.specs.Blocks.{Class, begins, class_of, goes_on, is_joined}
use Rattle.lbk_words.specs.Kinds.{kind_at, kind_value}
use Rattle.lbk_words.specs.Rows.{answer_number, row_word, step_number, told}
use Rattle.lbk_words.proofs.KindTrie.{kind_stepped}

-- a kind that a byte below 128 has
abbrev plain_kinds : List Bool
plain_kinds =
    true ∷ true ∷ true ∷ false ∷ false ∷ false ∷ false ∷ false ∷ true ∷ true ∷ true ∷ true ∷ true ∷ false ∷ false ∷ true ∷ true ∷ true ∷ false ∷ false ∷ false ∷ false
    ∷ true ∷ true ∷ []

abbrev pub is_plain : ℕ → Bool
is_plain k = nat_lt k 24 && slice_index_or plain_kinds k false

-- what such a kind is
abbrev pub kind_class : ℕ → Class
kind_class k = record {
  letter = k == 22;
  digit = k == 23;
  low_line = k == 2;
  mid_letter = k == 15 || (k == 9 || k == 10);
  mid_digit = k == 15 || (k == 9 || k == 11);
}

abbrev same_class : Class → Class → Bool
same_class c d = beq c.letter d.letter && (beq c.digit d.digit && (beq c.low_line d.low_line && (beq c.mid_letter d.mid_letter && beq c.mid_digit d.mid_digit)))

same_class-true : (c d : Class) → same_class c d ≡ true → c ≡ d
same_class-true c d same =
    let letter = and_parts _ _ same in
    let digit = and_parts _ _ letter.1 in
    let low = and_parts _ _ digit.1 in
    let mids = and_parts _ _ low.1 in
    let made : Bool → Bool → Bool → Bool → Bool → Class = λ l n u m d. record { letter = l; digit = n; low_line = u; mid_letter = m; mid_digit = d } in
    ap₂ (λ l n. made l n c.low_line c.mid_letter c.mid_digit) (same_from_beq _ _ letter.0) (same_from_beq _ _ digit.0)
    ∙ ap₂ (λ u m. made d.letter d.digit u m c.mid_digit) (same_from_beq _ _ low.0) (same_from_beq _ _ mids.0)
    ∙ ap (made d.letter d.digit d.low_line d.mid_letter) (same_from_beq _ _ mids.1)

abbrev byte_right : ℕ → ℕ → Bool
byte_right byte k =
    is_plain k && (same_class (class_of byte) (kind_class k) && (beq (byte == 13) (k == 0) && (beq (byte == 10) (k == 8) && beq (byte == 32) (k == 16))))

bytes_right : passes_below kind_at kind_stepped byte_right 128 ≡ true
unfolding all_below tables word_break_stepped general_category_stepped is_extended_pictographic_stepped
bytes_right = refl

pub record IsByte (byte : ℕ) : Type 0 where
  pub plain : is_plain (kind_at byte) ≡ true
  pub class : class_of byte ≡ kind_class (kind_at byte)
  pub return : (byte == 13) ≡ (kind_at byte == 0)
  pub feed : (byte == 10) ≡ (kind_at byte == 8)
  pub space : (byte == 32) ≡ (kind_at byte == 16)

pub is-byte : (byte : ℕ) → byte < 128 → IsByte byte
is-byte byte low =
    let plain = and_parts _ _ (Stepped-below kind_at kind_stepped byte_right 128 bytes_right byte low) in
    let class = and_parts _ _ plain.1 in
    let return = and_parts _ _ class.1 in
    let feed = and_parts _ _ return.1 in
    record {
      plain = plain.0;
      class = same_class-true _ _ class.0;
      return = same_from_beq _ _ return.0;
      feed = same_from_beq _ _ feed.0;
      space = same_from_beq _ _ feed.1;
    }

abbrev nul_right : ℕ → ℕ → Bool
nul_right byte k = k == 17

nul_is : passes_below kind_at kind_stepped nul_right 1 ≡ true
unfolding all_below tables word_break_stepped general_category_stepped is_extended_pictographic_stepped
nul_is = refl

-- of a NUL the rules ask nothing
pub nul-kind : kind_at 0 ≡ 17
nul-kind = eqb-true (kind_at 0) 17 (Stepped-below kind_at kind_stepped nul_right 1 nul_is 0 (omega arith))

-- the step from a row by a kind before another
abbrev pub stepped : ℕ → ℕ → ℕ → Step
stepped row k after = told (step_number (answer_number (kind_value after)) row k)

-- what holds of all such kinds
abbrev each : (ℕ → Bool) → Bool
each p = all_below (λ k. not (is_plain k) || p k) 24

each-at : (p : ℕ → Bool) (k : ℕ) → each p ≡ true → is_plain k ≡ true → p k ≡ true
each-at p k all plain =
    let few = ltb-true k 24 (and_parts _ _ plain).0 in
    ap (λ b. not b || p k) (sym plain) ∙ all_below-at (λ k. not (is_plain k) || p k) 24 k all few

-- WB4 passes over none of them
kept_right : each (λ k. not (is_ignored (kind_value k))) ≡ true
unfolding all_below
kept_right = refl

pub kept-at : (k : ℕ) → is_plain k ≡ true → is_ignored (kind_value k) ≡ false
kept-at k plain = not-true (is_ignored (kind_value k)) (each-at (λ k. not (is_ignored (kind_value k))) k kept_right plain)

-- the row behind a byte that goes on with a run
abbrev pub run_row : ℕ → ℕ
run_row k = cond (k == 22) 14 (cond (k == 23) 15 17)

-- from there a byte that is joined goes on with the run, if by the next one, and all others end it
abbrev goes_right : ℕ → ℕ → ℕ → Bool
goes_right next a b = let step = stepped next a b in not step.cuts && (step.next == run_row a)

abbrev run_right : ℕ → ℕ → ℕ → Bool
run_right before k a =
    let step = stepped (run_row before) k a in
    let joined = is_joined (kind_class before) (kind_class k) (kind_class a) in
    beq step.cuts (not joined)
    && (not joined || cond (goes_on (kind_class k)) (step.next == run_row k) (goes_on (kind_class a) && each (goes_right step.next a)))

abbrev runs_right_at : ℕ → Bool
runs_right_at before = not (goes_on (kind_class before)) || each (λ k. each (run_right before k))

runs_right : each runs_right_at ≡ true
unfolding all_below
runs_right = refl

-- rows of parts of other bytes
abbrev outside_rows : List Bool
outside_rows = true ∷ true ∷ false ∷ false ∷ false ∷ false ∷ true ∷ false ∷ false ∷ true ∷ []

abbrev pub is_outside : ℕ → Bool
is_outside row = nat_lt row 10 && slice_index_or outside_rows row false

abbrev outside_right : ℕ → ℕ → ℕ → Bool
outside_right row k a =
    let step = stepped row k a in
    let class = kind_class k in
    cond (goes_on class) (not (begins class) || step.cuts) (is_outside step.next)

abbrev rows_right_at : ℕ → Bool
rows_right_at row = not (is_outside row) || (not (row_word row) && each (λ k. each (outside_right row k)))

rows_right : all_below rows_right_at 10 ≡ true
unfolding all_below
rows_right = refl

abbrev first_right : ℕ → Bool
first_right k =
    let class = kind_class k in
    let row = slice_index FIRST_ROWS k in
    cond (begins class) (row == run_row k) (class.low_line || is_outside row)

firsts_right : each first_right ≡ true
unfolding all_below
firsts_right = refl

-- the row behind a byte that is of no run
abbrev pub other_row : ℕ → ℕ
other_row k = cond (k == 0) 0 (cond (k == 16) 9 (cond (k == 8 || k == 12) 6 1))

-- CR LF, and two spaces
abbrev pub pair_kinds : ℕ → ℕ → Bool
pair_kinds k a = (k == 0 && a == 8) || (k == 16 && a == 16)

abbrev other_right : ℕ → ℕ → ℕ → Bool
other_right k a b =
    let step = stepped (other_row k) a b in
    beq step.cuts (not (pair_kinds k a)) && (not (pair_kinds k a) || (step.next == other_row a))

abbrev others_right_at : ℕ → Bool
others_right_at k = goes_on (kind_class k) || ((slice_index FIRST_ROWS k == other_row k) && each (λ a. each (other_right k a)))

others_right : each others_right_at ≡ true
unfolding all_below
others_right = refl

-- What they say

run-at : (before k a : ℕ) → is_plain before ≡ true → is_plain k ≡ true → is_plain a ≡ true → goes_on (kind_class before) ≡ true → run_right before k a ≡ true
run-at before k a pb pk pa goes =
    let all : each (λ k. each (run_right before k)) ≡ true =
    sym (ap (λ b. not b || each (λ k. each (run_right before k))) goes) ∙ each-at runs_right_at before runs_right pb in
    each-at (run_right before k) a (each-at (λ k. each (run_right before k)) k all pk) pa

pub run-ends : (before k a : ℕ) → is_plain before ≡ true → is_plain k ≡ true → is_plain a ≡ true → goes_on (kind_class before) ≡ true
    → is_joined (kind_class before) (kind_class k) (kind_class a) ≡ false → (stepped (run_row before) k a).cuts ≡ true
run-ends before k a pb pk pa goes apart = same_from_beq _ _ (and_parts _ _ (run-at before k a pb pk pa goes)).0 ∙ ap not apart

pub run-joins : (before k a : ℕ) → is_plain before ≡ true → is_plain k ≡ true → is_plain a ≡ true → goes_on (kind_class before) ≡ true
    → is_joined (kind_class before) (kind_class k) (kind_class a) ≡ true → (stepped (run_row before) k a).cuts ≡ false
run-joins before k a pb pk pa goes joined = same_from_beq _ _ (and_parts _ _ (run-at before k a pb pk pa goes)).0 ∙ ap not joined

joined-part : (before k a : ℕ) → is_plain before ≡ true → is_plain k ≡ true → is_plain a ≡ true → goes_on (kind_class before) ≡ true
    → is_joined (kind_class before) (kind_class k) (kind_class a) ≡ true
    → let step = stepped (run_row before) k a in cond (goes_on (kind_class k)) (step.next == run_row k) (goes_on (kind_class a) && each (goes_right step.next a)) ≡ true
joined-part before k a pb pk pa goes joined =
    let step = stepped (run_row before) k a in
    sym (ap (λ j. not j || cond (goes_on (kind_class k)) (step.next == run_row k) (goes_on (kind_class a) && each (goes_right step.next a))) joined)
    ∙ (and_parts _ _ (run-at before k a pb pk pa goes)).1

pub run-next : (before k a : ℕ) → is_plain before ≡ true → is_plain k ≡ true → is_plain a ≡ true → goes_on (kind_class before) ≡ true
    → is_joined (kind_class before) (kind_class k) (kind_class a) ≡ true → goes_on (kind_class k) ≡ true → (stepped (run_row before) k a).next ≡ run_row k
run-next before k a pb pk pa goes joined on =
    let step = stepped (run_row before) k a in
    eqb-true _ _ (sym (ap (λ g. cond g (step.next == run_row k) (goes_on (kind_class a) && each (goes_right step.next a))) on) ∙ joined-part before k a pb pk pa goes joined)

-- behind a mark within a run
pub record IsPassed (next a : ℕ) : Type 0 where
  pub goes : goes_on (kind_class a) ≡ true
  pub joins : (b : ℕ) → is_plain b ≡ true → (stepped next a b).cuts ≡ false
  pub row : (b : ℕ) → is_plain b ≡ true → (stepped next a b).next ≡ run_row a

pub run-passes : (before k a : ℕ) → is_plain before ≡ true → is_plain k ≡ true → is_plain a ≡ true → goes_on (kind_class before) ≡ true
    → is_joined (kind_class before) (kind_class k) (kind_class a) ≡ true → goes_on (kind_class k) ≡ false → IsPassed (stepped (run_row before) k a).next a
run-passes before k a pb pk pa goes joined mark =
    let step = stepped (run_row before) k a in
    let parts = and_parts _ _ (sym (ap (λ g. cond g (step.next == run_row k) (goes_on (kind_class a) && each (goes_right step.next a))) mark) ∙ joined-part before k a pb pk pa goes joined) in
    record {
      goes = parts.0;
      joins = λ b plain. not-true (stepped step.next a b).cuts (and_parts _ _ (each-at (goes_right step.next a) b parts.1 plain)).0;
      row = λ b plain. eqb-true _ _ (and_parts _ _ (each-at (goes_right step.next a) b parts.1 plain)).1;
    }

pub run-word : (k : ℕ) → row_word (run_row k) ≡ true
run-word k = by (k == 22) (k == 23)
  where
    by : (letter digit : Bool) → row_word (cond letter 14 (cond digit 15 17)) ≡ true
    by true digit = refl
    by false true = refl
    by false false = refl

outside-at : (row : ℕ) → is_outside row ≡ true → (not (row_word row) && each (λ k. each (outside_right row k))) ≡ true
outside-at row outside =
    let few = ltb-true row 10 (and_parts _ _ outside).0 in
    sym (ap (λ b. not b || (not (row_word row) && each (λ k. each (outside_right row k)))) outside) ∙ all_below-at rows_right_at 10 row rows_right few

pub outside-word : (row : ℕ) → is_outside row ≡ true → row_word row ≡ false
outside-word row outside = not-true (row_word row) (and_parts _ _ (outside-at row outside)).0

outside-part : (row k a : ℕ) → is_outside row ≡ true → is_plain k ≡ true → is_plain a ≡ true → outside_right row k a ≡ true
outside-part row k a outside pk pa =
    each-at (outside_right row k) a (each-at (λ k. each (outside_right row k)) k (and_parts _ _ (outside-at row outside)).1 pk) pa

pub outside-next : (row k a : ℕ) → is_outside row ≡ true → is_plain k ≡ true → is_plain a ≡ true → goes_on (kind_class k) ≡ false → is_outside (stepped row k a).next ≡ true
outside-next row k a outside pk pa other =
    let step = stepped row k a in
    sym (ap (λ g. cond g (not (begins (kind_class k)) || step.cuts) (is_outside step.next)) other) ∙ outside-part row k a outside pk pa

pub outside-ends : (row k a : ℕ) → is_outside row ≡ true → is_plain k ≡ true → is_plain a ≡ true → begins (kind_class k) ≡ true → (stepped row k a).cuts ≡ true
outside-ends row k a outside pk pa first =
    let step = stepped row k a in
    sym (ap (λ b. cond (b || (kind_class k).low_line) (not b || step.cuts) (is_outside step.next)) first) ∙ outside-part row k a outside pk pa

pub first-run : (k : ℕ) → is_plain k ≡ true → begins (kind_class k) ≡ true → slice_index FIRST_ROWS k ≡ run_row k
first-run k plain first =
    let row = slice_index FIRST_ROWS k in
    eqb-true _ _ (sym (ap (λ b. cond b (row == run_row k) ((kind_class k).low_line || is_outside row)) first) ∙ each-at first_right k firsts_right plain)

pub first-outside : (k : ℕ) → is_plain k ≡ true → goes_on (kind_class k) ≡ false → is_outside (slice_index FIRST_ROWS k) ≡ true
first-outside k plain other = by (begins (kind_class k)) (kind_class k).low_line other (each-at first_right k firsts_right plain)
  where
    by : (first low : Bool) → (first || low) ≡ false → cond first (slice_index FIRST_ROWS k == run_row k) (low || is_outside (slice_index FIRST_ROWS k)) ≡ true → is_outside (slice_index FIRST_ROWS k) ≡ true
    by false false none right = right
    by true low none right = absurd (let never : ⊥ = cc in never)
    by false true none right = absurd (let never : ⊥ = cc in never)

other-at : (k : ℕ) → is_plain k ≡ true → goes_on (kind_class k) ≡ false → ((slice_index FIRST_ROWS k == other_row k) && each (λ a. each (other_right k a))) ≡ true
other-at k plain other =
    sym (ap (λ b. b || ((slice_index FIRST_ROWS k == other_row k) && each (λ a. each (other_right k a)))) other) ∙ each-at others_right_at k others_right plain

pub first-other : (k : ℕ) → is_plain k ≡ true → goes_on (kind_class k) ≡ false → slice_index FIRST_ROWS k ≡ other_row k
first-other k plain other = eqb-true _ _ (and_parts _ _ (other-at k plain other)).0

other-step : (k a b : ℕ) → is_plain k ≡ true → is_plain a ≡ true → is_plain b ≡ true → goes_on (kind_class k) ≡ false → other_right k a b ≡ true
other-step k a b pk pa pb other =
    each-at (other_right k a) b (each-at (λ a. each (other_right k a)) a (and_parts _ _ (other-at k pk other)).1 pa) pb

pub other-ends : (k a b : ℕ) → is_plain k ≡ true → is_plain a ≡ true → is_plain b ≡ true → goes_on (kind_class k) ≡ false → pair_kinds k a ≡ false
    → (stepped (other_row k) a b).cuts ≡ true
other-ends k a b pk pa pb other apart = same_from_beq _ _ (and_parts _ _ (other-step k a b pk pa pb other)).0 ∙ ap not apart

pub record IsPaired (k a b : ℕ) : Type 0 where
  pub joins : (stepped (other_row k) a b).cuts ≡ false
  pub row : (stepped (other_row k) a b).next ≡ other_row a

pub other-pair : (k a b : ℕ) → is_plain k ≡ true → is_plain a ≡ true → is_plain b ≡ true → goes_on (kind_class k) ≡ false → pair_kinds k a ≡ true → IsPaired k a b
other-pair k a b pk pa pb other pair =
    let step = stepped (other_row k) a b in
    let parts = and_parts _ _ (other-step k a b pk pa pb other) in
    record {
      joins = same_from_beq _ _ parts.0 ∙ ap not pair;
      row = eqb-true _ _ (sym (ap (λ p. not p || (step.next == other_row a)) pair) ∙ parts.1);
    }
