-- How a context grows, and what it decides.
use Rattle.std.proofs.Common.{◌≡◌, ℕ, true, cond, List, [], ◌∷◌, refl}
use Rattle.ucd_breaks.specs.WordBreak.{word_break}
use Rattle.ucd_breaks.specs.declared.WordBreak.{WordBreak}
use Rattle.ucd_breaks.specs.declared.WordBreak.TheVariants.{Extend, Format, Zwj}
use Rattle.unicode_segmentation.specs.Word.{is_ignored, is_word_break, significant, starts_with_half_flag, value_at}
use Rattle.lbk_words.specs.Contexts.{Context, breaks_by, context_after, context_of}

-- the values with one in front, unless WB4 passes over it
abbrev pub with_value : WordBreak → List WordBreak → List WordBreak
with_value value values = cond (is_ignored value) values (value ∷ values)

-- what some values tell, where the last scalar's value is `last`
abbrev pub told_by : WordBreak → List WordBreak → Context
told_by last values = record { last = last; left = value_at values 0; far_left = value_at values 1; half_flag = starts_with_half_flag values }

grown : (old value : WordBreak) (values : List WordBreak) → told_by value (with_value value values) ≡ context_after (told_by old values) value
unfolding starts_with_half_flag
grown old Extend values = refl
grown old Format values = refl
grown old Zwj values = refl
grown old _ values = refl

-- one more scalar
pub context-after : (c : ℕ) (before : List ℕ) → context_of (c ∷ before) ≡ context_after (context_of before) (word_break c)
unfolding significant
context-after c before = grown (context_of before).last (word_break c) (significant before)

-- what the rules say within a text is what its context decides
pub decided-inside : (last : ℕ) (before : List ℕ) (next : ℕ) (after : List ℕ)
    → is_word_break (last ∷ before) (next ∷ after) ≡ breaks_by (context_of (last ∷ before)) next (value_at (significant after) 0)
unfolding is_word_break
decided-inside last before next after = refl

-- at the end of a text there is a boundary
pub decided-end : (before : List ℕ) → is_word_break before [] ≡ true
unfolding is_word_break
decided-end [] = refl
decided-end (last ∷ before) = refl
