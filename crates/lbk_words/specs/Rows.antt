-- Contexts that the rules do not tell apart, and the steps between them.
use Rattle.std.specs.Prelude.{◌≡◌, ℕ, ◌+◌, ◌*◌, ◌/◌, ◌%◌, ◌<◌, Bool, true, false, not, ◌&&◌, ◌||◌, ◌==◌, [], ◌∷◌}
use Rattle.std.specs.Prelude.{slice_index, slice_index_or, unwrap_or, if◌then◌else◌}
use Rattle.ucd_breaks.specs.WordBreak.{word_break}
use Rattle.ucd_breaks.specs.declared.WordBreak.{WordBreak}
use Rattle.ucd_breaks.specs.declared.WordBreak.TheVariants.{Cr, DoubleQuote, ExtendNumLet, HebrewLetter, Katakana}
use Rattle.ucd_breaks.specs.declared.WordBreak.TheVariants.{ALetter, Lf, MidNumLet, MidLetter, MidNum, Newline}
use Rattle.ucd_breaks.specs.declared.WordBreak.TheVariants.{Numeric, SingleQuote, WSegSpace, Other, Zwj}
use Rattle.unicode_segmentation.specs.Word.{break_by_pair, is_ah_letter, is_hebrew_letter, is_numeric, is_regional}
use Rattle.unicode_segmentation.specs.Word.{joins}
use Rattle.lbk_words.specs.declared.steps.Step.{Step}
use Rattle.lbk_words.specs.declared.step_table.TheConstants.{STEPS}
use Rattle.lbk_words.specs.Contexts.{Context, breaks_by, context_after}
use Rattle.lbk_words.specs.Letters.{is_letter_or_number}
use Rattle.lbk_words.specs.RowList.{rows}

-- a value that the rules on pairs do not tell from this one on the left
abbrev pub near : WordBreak → WordBreak
near Cr = Cr
near Lf = Lf
near Newline = Lf
near Zwj = Zwj
near WSegSpace = WSegSpace
near _ = Other

-- values that the rules from WB5 on do not tell from these two on the left, the nearer and the farther
abbrev pub like_left : WordBreak → WordBreak → WordBreak
like_left ALetter far = ALetter
like_left HebrewLetter far = HebrewLetter
like_left Numeric far = Numeric
like_left Katakana far = Katakana
like_left ExtendNumLet far = ExtendNumLet
like_left MidLetter far = if is_ah_letter far then MidLetter else Other
like_left MidNumLet far = if is_ah_letter far then MidLetter else (if is_numeric far then MidNum else Other)
like_left SingleQuote far = if is_ah_letter far then MidLetter else (if is_numeric far then MidNum else Other)
like_left MidNum far = if is_numeric far then MidNum else Other
like_left DoubleQuote far = if is_hebrew_letter far then DoubleQuote else Other
like_left _ far = Other

abbrev pub like_far : WordBreak → WordBreak → WordBreak
like_far MidLetter far = if is_ah_letter far then ALetter else Other
like_far MidNumLet far = if is_ah_letter far then ALetter else (if is_numeric far then Numeric else Other)
like_far SingleQuote far = if is_ah_letter far then ALetter else (if is_numeric far then Numeric else Other)
like_far MidNum far = if is_numeric far then Numeric else Other
like_far DoubleQuote far = if is_hebrew_letter far then HebrewLetter else Other
like_far _ far = Other

abbrev pub canonical : Context → Context
canonical x = record {
  last = near x.last;
  left = like_left x.left x.far_left;
  far_left = like_far x.left x.far_left;
  half_flag = x.half_flag;
}

-- a value ahead that the rules do not tell from this one
abbrev pub answer_like : WordBreak → WordBreak
answer_like ALetter = ALetter
answer_like HebrewLetter = HebrewLetter
answer_like Numeric = Numeric
answer_like _ = Other

abbrev pub answer_number : WordBreak → ℕ
answer_number ALetter = 1
answer_number HebrewLetter = 2
answer_number Numeric = 3
answer_number _ = 0

abbrev pub answer_value : ℕ → WordBreak
answer_value n = slice_index_or (Other ∷ ALetter ∷ HebrewLetter ∷ Numeric ∷ []) n Other

abbrev pub start_context : Context
start_context = record { last = Other; left = Other; far_left = Other; half_flag = false }

-- whether there is a boundary, by the value and Extended_Pictographic of the next scalar
abbrev pub breaks_value : Context → WordBreak → Bool → WordBreak → Bool
breaks_value x value pict far = unwrap_or (break_by_pair x.last value pict)
    (not (joins x.far_left x.left value far || (x.half_flag && is_regional value)))

-- Rows

abbrev pub row_at : ℕ → Context × Bool
row_at row = slice_index_or rows row (start_context, false)

abbrev pub row_context : ℕ → Context
row_context row = (row_at row).0

abbrev pub row_word : ℕ → Bool
row_word row = (row_at row).1

abbrev pub step_number : ℕ → ℕ → ℕ → ℕ
step_number answer row kind = slice_index (slice_index_or STEPS (answer * 43 + row) []) kind

-- what a number of the table tells
abbrev pub told : ℕ → Step
told n = record { next = n % 64; cuts = (n / 64 % 2) == 1; counts = (n / 128 % 2) == 1; asks = (n / 256 % 2) == 1 }

-- of the part so far of this row, what the next scalar makes of it, where the first value behind that is not passed
-- over is `far`
pub record IsStep (row c : ℕ) (far : WordBreak) (step : Step) : Type 0 where
  pub next : step.next < 43
  pub counts : step.counts ≡ (step.cuts && row_word row)
  pub cuts : (x : Context) → canonical x ≡ row_context row → breaks_by x c far ≡ step.cuts
  pub joined : step.cuts ≡ false → (x : Context) → canonical x ≡ row_context row
      → canonical (context_after x (word_break c)) ≡ row_context step.next
  pub fresh : step.cuts ≡ true → canonical (context_after start_context (word_break c)) ≡ row_context step.next
  pub word : row_word step.next ≡ (if step.cuts then is_letter_or_number c else (row_word row || is_letter_or_number c))

-- the row of a part of one scalar
pub record IsFirstRow (c row : ℕ) : Type 0 where
  pub few : row < 43
  pub context : canonical (context_after start_context (word_break c)) ≡ row_context row
  pub word : row_word row ≡ is_letter_or_number c
