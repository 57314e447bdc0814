-- The rules do not tell a context from its canonical one.
use Rattle.std.proofs.Common.{◌≡◌, Bool, cond, not, ◌&&◌, ◌||◌, unwrap_or, refl, sym, ap, ap₂, ◌∙◌}
use Rattle.ucd_breaks.specs.declared.WordBreak.{WordBreak}
use Rattle.ucd_breaks.specs.declared.WordBreak.TheVariants.{Cr, DoubleQuote, ExtendNumLet, Extend, Format, HebrewLetter, Katakana, ALetter, MidNumLet, MidLetter, MidNum, Newline, Numeric, RegionalIndicator, SingleQuote, Other, Zwj}
use Rattle.unicode_segmentation.specs.Word.{break_by_pair, is_ah_letter, is_hebrew_letter, is_numeric, is_regional, joins}
use Rattle.lbk_words.specs.Contexts.{Context, context_after}
use Rattle.lbk_words.specs.Rows.{answer_like, answer_number, answer_value, breaks_value, canonical, like_far, like_left, near}

near-pair : (last value : WordBreak) (pict : Bool) → break_by_pair (near last) value pict ≡ break_by_pair last value pict
near-pair DoubleQuote Cr pict = refl
near-pair DoubleQuote _ pict = refl
near-pair ExtendNumLet Cr pict = refl
near-pair ExtendNumLet _ pict = refl
near-pair Extend Cr pict = refl
near-pair Extend _ pict = refl
near-pair Format Cr pict = refl
near-pair Format _ pict = refl
near-pair HebrewLetter Cr pict = refl
near-pair HebrewLetter _ pict = refl
near-pair Katakana Cr pict = refl
near-pair Katakana _ pict = refl
near-pair ALetter Cr pict = refl
near-pair ALetter _ pict = refl
near-pair MidNumLet Cr pict = refl
near-pair MidNumLet _ pict = refl
near-pair MidLetter Cr pict = refl
near-pair MidLetter _ pict = refl
near-pair MidNum Cr pict = refl
near-pair MidNum _ pict = refl
near-pair Newline Cr pict = refl
near-pair Newline _ pict = refl
near-pair Numeric Cr pict = refl
near-pair Numeric _ pict = refl
near-pair RegionalIndicator Cr pict = refl
near-pair RegionalIndicator _ pict = refl
near-pair SingleQuote Cr pict = refl
near-pair SingleQuote _ pict = refl
near-pair _ value pict = refl

like-joins : (far left right ahead : WordBreak) → joins (like_far left far) (like_left left far) right ahead ≡ joins far left right ahead
like-joins ALetter MidLetter right ahead = refl
like-joins _ MidLetter right ahead = refl
like-joins ALetter MidNumLet right ahead = refl
like-joins _ MidNumLet right ahead = refl
like-joins ALetter SingleQuote right ahead = refl
like-joins _ SingleQuote right ahead = refl
like-joins ALetter MidNum right ahead = refl
like-joins _ MidNum right ahead = refl
like-joins ALetter DoubleQuote right ahead = refl
like-joins _ DoubleQuote right ahead = refl
like-joins far Cr right ahead = refl
like-joins far _ right ahead = refl

like-ahead : (far left right ahead : WordBreak) → joins far left right (answer_like ahead) ≡ joins far left right ahead
like-ahead far left right ALetter = refl
like-ahead far left right _ = refl

pub like-breaks : (x : Context) (value : WordBreak) (pict : Bool) (far : WordBreak) → breaks_value x value pict far ≡ breaks_value (canonical x) value pict (answer_like far)
like-breaks x value pict far =
    sym (ap₂ (λ o j. unwrap_or o (not (j || (x.half_flag && is_regional value)))) (near-pair x.last value pict)
    (like-ahead (like_far x.left x.far_left) (like_left x.left x.far_left) value far ∙ like-joins x.far_left x.left value far))

-- a canonical pair of values is its own, and passes the tests that the left value passes
abbrev tests : WordBreak → WordBreak → WordBreak × WordBreak × Bool × Bool × Bool
tests left far = (like_left left far, like_far left far, is_ah_letter left, is_numeric left, is_hebrew_letter left)

again : (left far : WordBreak) → tests (like_left left far) (like_far left far) ≡ tests left far
again MidLetter ALetter = refl
again MidLetter _ = refl
again MidNumLet ALetter = refl
again MidNumLet _ = refl
again SingleQuote ALetter = refl
again SingleQuote _ = refl
again MidNum ALetter = refl
again MidNum _ = refl
again DoubleQuote ALetter = refl
again DoubleQuote _ = refl
again _ far = refl

-- what is behind a left value counts by three tests
left-tests : (value far behind : WordBreak) → is_ah_letter far ≡ is_ah_letter behind → is_numeric far ≡ is_numeric behind → is_hebrew_letter far ≡ is_hebrew_letter behind
    → like_left value far ≡ like_left value behind
left-tests MidLetter far behind ah num heb = ap (λ b. cond b MidLetter Other) ah
left-tests MidNumLet far behind ah num heb = ap₂ (λ b d. cond b MidLetter (cond d MidNum Other)) ah num
left-tests SingleQuote far behind ah num heb = ap₂ (λ b d. cond b MidLetter (cond d MidNum Other)) ah num
left-tests MidNum far behind ah num heb = ap (λ b. cond b MidNum Other) num
left-tests DoubleQuote far behind ah num heb = ap (λ b. cond b DoubleQuote Other) heb
left-tests _ far behind ah num heb = refl

far-tests : (value far behind : WordBreak) → is_ah_letter far ≡ is_ah_letter behind → is_numeric far ≡ is_numeric behind → is_hebrew_letter far ≡ is_hebrew_letter behind
    → like_far value far ≡ like_far value behind
far-tests MidLetter far behind ah num heb = ap (λ b. cond b ALetter Other) ah
far-tests MidNumLet far behind ah num heb = ap₂ (λ b d. cond b ALetter (cond d Numeric Other)) ah num
far-tests SingleQuote far behind ah num heb = ap₂ (λ b d. cond b ALetter (cond d Numeric Other)) ah num
far-tests MidNum far behind ah num heb = ap (λ b. cond b Numeric Other) num
far-tests DoubleQuote far behind ah num heb = ap (λ b. cond b HebrewLetter Other) heb
far-tests _ far behind ah num heb = refl

abbrev made : WordBreak → WordBreak → WordBreak → Bool → Context
made last left far half = record { last = last; left = left; far_left = far; half_flag = half }

-- a value that is not passed over stands on the left of the next
like-kept : (x : Context) (value : WordBreak) → canonical (made value value (like_left x.left x.far_left) (is_regional value && not x.half_flag))
    ≡ canonical (made value value x.left (is_regional value && not x.half_flag))
like-kept x value =
    let left = x.left in
    let same = again left x.far_left in
    let ah = ap (λ t. t.2) same in
    let num = ap (λ t. t.3) same in
    let heb = ap (λ t. t.4) same in
    ap₂ (λ a b. made (near value) a b (is_regional value && not x.half_flag))
    (left-tests value (like_left left x.far_left) left ah num heb) (far-tests value (like_left left x.far_left) left ah num heb)

like-passed : (x : Context) (value : WordBreak) → canonical (made value (like_left x.left x.far_left) (like_far x.left x.far_left) x.half_flag)
    ≡ canonical (made value x.left x.far_left x.half_flag)
like-passed x value =
    let same = again x.left x.far_left in
    ap₂ (λ l f. made (near value) l f x.half_flag) (ap (λ t. t.0) same) (ap (λ t. t.1) same)

pub like-after : (x : Context) (value : WordBreak) → canonical (context_after (canonical x) value) ≡ canonical (context_after x value)
like-after x Extend = like-passed x Extend
like-after x Format = like-passed x Format
like-after x Zwj = like-passed x Zwj
like-after x value = like-kept x value

pub answered : (far : WordBreak) → answer_value (answer_number far) ≡ answer_like far
answered ALetter = refl
answered _ = refl
