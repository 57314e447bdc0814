-- The kinds of scalars: a number for the value of Word_Break, whether it is a letter or a number, and
-- Extended_Pictographic.
use Rattle.std.specs.Prelude.{ℕ, Bool, true, false, ◌&&◌, ◌||◌, ◌==◌, nat_le, nat_lt, List, [], ◌∷◌}
use Rattle.std.specs.Prelude.{slice_index_or}
use Rattle.ucd_breaks.specs.WordBreak.{word_break, word_break_number}
use Rattle.ucd_breaks.specs.declared.WordBreak.{WordBreak}
use Rattle.ucd_breaks.specs.declared.WordBreak.TheVariants.{Cr, DoubleQuote, ExtendNumLet, Extend, Format}
use Rattle.ucd_breaks.specs.declared.WordBreak.TheVariants.{HebrewLetter, Katakana, ALetter, Lf, MidNumLet, MidLetter}
use Rattle.ucd_breaks.specs.declared.WordBreak.TheVariants.{MidNum, Newline, Numeric, RegionalIndicator, SingleQuote}
use Rattle.ucd_breaks.specs.declared.WordBreak.TheVariants.{WSegSpace, Other, Zwj}
use Rattle.ucd_emoji.specs.Binary.{is_extended_pictographic}
use Rattle.lbk_words.specs.Letters.{is_letter_or_number}

abbrev pub letter_kind : WordBreak → ℕ
letter_kind Extend = 19
letter_kind HebrewLetter = 20
letter_kind Katakana = 21
letter_kind ALetter = 22
letter_kind Numeric = 23
letter_kind _ = 24

abbrev pub pict_kind : WordBreak → Bool → ℕ
pict_kind ALetter false = 25
pict_kind ALetter true = 26
pict_kind _ _ = 27

abbrev pub kind_number : WordBreak → Bool → Bool → ℕ
kind_number value letter true = pict_kind value letter
kind_number value true false = letter_kind value
kind_number value false false = word_break_number value

-- the kind of a scalar
abbrev pub kind_at : ℕ → ℕ
kind_at c = kind_number (word_break c) (is_letter_or_number c) (is_extended_pictographic c)

-- what a kind tells
abbrev pub kind_values : List WordBreak
kind_values =
    Cr ∷ DoubleQuote ∷ ExtendNumLet ∷ Extend ∷ Format ∷ HebrewLetter ∷ Katakana ∷ ALetter ∷ Lf ∷ MidNumLet ∷ MidLetter
    ∷ MidNum ∷ Newline ∷ Numeric
    ∷ RegionalIndicator ∷ SingleQuote ∷ WSegSpace ∷ Other ∷ Zwj ∷ Extend ∷ HebrewLetter ∷ Katakana ∷ ALetter ∷ Numeric
    ∷ Other ∷ ALetter ∷ ALetter ∷ Other ∷ []

abbrev pub kind_value : ℕ → WordBreak
kind_value kind = slice_index_or kind_values kind Other

abbrev pub kind_letter : ℕ → Bool
kind_letter kind = (nat_le 19 kind && nat_lt kind 25) || (kind == 26)

abbrev pub kind_pict : ℕ → Bool
kind_pict kind = nat_le 25 kind && nat_lt kind 28
