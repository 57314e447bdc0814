-- Where a table's cells and UAX #29 agree.
use Rattle.std.specs.Prelude.{◌≡◌, ℕ, Bool, true, false, List}
use Rattle.std.specs.List.{AllByRecursion}
use Rattle.ucd_breaks.specs.WordBreak.{word_break}
use Rattle.ucd_breaks.specs.declared.WordBreak.{WordBreak}
use Rattle.ucd_breaks.specs.declared.WordBreak.TheVariants.{Cr, Lf, Newline}
use Rattle.lbk_rules.specs.declared.Cell.{Cell}
use Rattle.lbk_rules.specs.Ends.{ends_between}
use Rattle.lbk_words.specs.Letters.{is_letter_or_number}

-- which of these scalars are letters or numbers
abbrev pub AgreeOnLetters : (ℕ → Cell) → List ℕ → Type 0
AgreeOnLetters cell scalars = AllByRecursion (λ c. (cell c).letter ≡ is_letter_or_number c) scalars

-- rules WB3 and WB3a: a boundary follows a line end, except between CR and LF
abbrev pub ends_between_words : WordBreak → WordBreak → Bool
ends_between_words Cr Lf = false
ends_between_words Newline next = true
ends_between_words Cr next = true
ends_between_words Lf next = true
ends_between_words last next = false

-- a word boundary is wherever, by the cells' classes, a line must end between two scalars
abbrev pub AgreeOnLines : (ℕ → Cell) → Type 0
AgreeOnLines cell = (c d : ℕ) → ends_between (cell c).class (cell d).class ≡ true
    → ends_between_words (word_break c) (word_break d) ≡ true
