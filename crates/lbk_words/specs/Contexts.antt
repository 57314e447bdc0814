-- What the rules on word boundaries ask of the scalars before a place.
use Rattle.std.specs.Prelude.{ℕ, Bool, not, ◌&&◌, ◌||◌, List, [], ◌∷◌, unwrap_or, if◌then◌else◌}
use Rattle.ucd_breaks.specs.WordBreak.{word_break}
use Rattle.ucd_breaks.specs.declared.WordBreak.{WordBreak}
use Rattle.ucd_breaks.specs.declared.WordBreak.TheVariants.{Other}
use Rattle.ucd_emoji.specs.Binary.{is_extended_pictographic}
use Rattle.unicode_segmentation.specs.Word.{break_by_pair, is_ignored, is_regional, joins, significant}
use Rattle.unicode_segmentation.specs.Word.{starts_with_half_flag, value_at}

-- The values of the last scalars. Where there are none, the values are `Other`, which no rule names.
pub record Context : Type 0 where
  -- of the last scalar
  pub last : WordBreak
  -- of the last that rule WB4 does not pass over
  pub left : WordBreak
  -- of the last but one of these
  pub far_left : WordBreak
  -- the last of these are an odd number of regional indicators (rules WB15 and WB16)
  pub half_flag : Bool

-- the value of the first of some scalars
abbrev pub first_value : List ℕ → WordBreak
first_value [] = Other
first_value (c ∷ cs) = word_break c

-- of the scalars before a place, nearest first
abbrev pub context_of : List ℕ → Context
context_of before = record {
  last = first_value before;
  left = value_at (significant before) 0;
  far_left = value_at (significant before) 1;
  half_flag = starts_with_half_flag (significant before);
}

-- after one more scalar, of this value
abbrev pub context_after : Context → WordBreak → Context
context_after context value =
    if is_ignored value then record {
      last = value;
      left = context.left;
      far_left = context.far_left;
      half_flag = context.half_flag;
    }
    else record {
      last = value;
      left = value;
      far_left = context.left;
      half_flag = is_regional value
          && not context.half_flag;
    }

-- there is a boundary before `next`, where the first value behind it that WB4 does not pass over is `far_right`
abbrev pub breaks_by : Context → ℕ → WordBreak → Bool
breaks_by context next far_right =
    unwrap_or (break_by_pair context.last (word_break next) (is_extended_pictographic next))
    (not (joins context.far_left context.left (word_break next) far_right
    || (context.half_flag && is_regional (word_break next))))
