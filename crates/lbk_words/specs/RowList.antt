-- The rows, written by scripts/word-tables: what the rules ask of a part so far, and whether it has a letter or a number.
use Rattle.std.specs.Prelude.{Bool, true, false, List, [], ◌∷◌}
use Rattle.ucd_breaks.specs.declared.WordBreak.TheVariants.{ALetter, Cr, DoubleQuote, ExtendNumLet, HebrewLetter}
use Rattle.ucd_breaks.specs.declared.WordBreak.TheVariants.{Katakana, Lf, MidLetter, MidNum, Numeric, Other, WSegSpace}
use Rattle.ucd_breaks.specs.declared.WordBreak.TheVariants.{Zwj}
use Rattle.lbk_words.specs.Contexts.{Context}

abbrev pub rows : List (Context × Bool)
rows =
    (record { last = Cr; left = Other; far_left = Other; half_flag = false }, false) ∷
    (record { last = Other; left = Other; far_left = Other; half_flag = false }, false) ∷
    (record { last = Other; left = ExtendNumLet; far_left = Other; half_flag = false }, false) ∷
    (record { last = Other; left = HebrewLetter; far_left = Other; half_flag = false }, false) ∷
    (record { last = Other; left = Katakana; far_left = Other; half_flag = false }, false) ∷
    (record { last = Other; left = ALetter; far_left = Other; half_flag = false }, false) ∷
    (record { last = Lf; left = Other; far_left = Other; half_flag = false }, false) ∷
    (record { last = Other; left = Numeric; far_left = Other; half_flag = false }, false) ∷
    (record { last = Other; left = Other; far_left = Other; half_flag = true }, false) ∷
    (record { last = WSegSpace; left = Other; far_left = Other; half_flag = false }, false) ∷
    (record { last = Zwj; left = Other; far_left = Other; half_flag = false }, false) ∷
    (record { last = Other; left = Other; far_left = Other; half_flag = false }, true) ∷
    (record { last = Other; left = HebrewLetter; far_left = Other; half_flag = false }, true) ∷
    (record { last = Other; left = Katakana; far_left = Other; half_flag = false }, true) ∷
    (record { last = Other; left = ALetter; far_left = Other; half_flag = false }, true) ∷
    (record { last = Other; left = Numeric; far_left = Other; half_flag = false }, true) ∷
    (record { last = Zwj; left = ExtendNumLet; far_left = Other; half_flag = false }, false) ∷
    (record { last = Other; left = ExtendNumLet; far_left = Other; half_flag = false }, true) ∷
    (record { last = Other; left = DoubleQuote; far_left = HebrewLetter; half_flag = false }, false) ∷
    (record { last = Other; left = MidLetter; far_left = ALetter; half_flag = false }, false) ∷
    (record { last = Zwj; left = HebrewLetter; far_left = Other; half_flag = false }, false) ∷
    (record { last = Zwj; left = Katakana; far_left = Other; half_flag = false }, false) ∷
    (record { last = Zwj; left = ALetter; far_left = Other; half_flag = false }, false) ∷
    (record { last = Other; left = MidNum; far_left = Numeric; half_flag = false }, false) ∷
    (record { last = Zwj; left = Numeric; far_left = Other; half_flag = false }, false) ∷
    (record { last = Zwj; left = Other; far_left = Other; half_flag = true }, false) ∷
    (record { last = Other; left = Other; far_left = Other; half_flag = true }, true) ∷
    (record { last = Zwj; left = Other; far_left = Other; half_flag = false }, true) ∷
    (record { last = Other; left = DoubleQuote; far_left = HebrewLetter; half_flag = false }, true) ∷
    (record { last = Other; left = MidLetter; far_left = ALetter; half_flag = false }, true) ∷
    (record { last = Zwj; left = HebrewLetter; far_left = Other; half_flag = false }, true) ∷
    (record { last = Zwj; left = Katakana; far_left = Other; half_flag = false }, true) ∷
    (record { last = Zwj; left = ALetter; far_left = Other; half_flag = false }, true) ∷
    (record { last = Other; left = MidNum; far_left = Numeric; half_flag = false }, true) ∷
    (record { last = Zwj; left = Numeric; far_left = Other; half_flag = false }, true) ∷
    (record { last = Zwj; left = ExtendNumLet; far_left = Other; half_flag = false }, true) ∷
    (record { last = Zwj; left = DoubleQuote; far_left = HebrewLetter; half_flag = false }, false) ∷
    (record { last = Zwj; left = MidLetter; far_left = ALetter; half_flag = false }, false) ∷
    (record { last = Zwj; left = MidNum; far_left = Numeric; half_flag = false }, false) ∷
    (record { last = Zwj; left = Other; far_left = Other; half_flag = true }, true) ∷
    (record { last = Zwj; left = DoubleQuote; far_left = HebrewLetter; half_flag = false }, true) ∷
    (record { last = Zwj; left = MidLetter; far_left = ALetter; half_flag = false }, true) ∷
    (record { last = Zwj; left = MidNum; far_left = Numeric; half_flag = false }, true) ∷
    []
