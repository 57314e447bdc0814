-- Letters and numbers, by General_Category (Unicode Standard, section 4.5).
use Rattle.std.specs.Prelude.{ℕ, Bool, true, false, List}
use Rattle.std.specs.List.{list_any}
use Rattle.ucd_category.specs.GeneralCategory.{general_category}
use Rattle.ucd_category.specs.declared.GeneralCategory.{GeneralCategory}
use Rattle.ucd_category.specs.declared.GeneralCategory.TheVariants.{UppercaseLetter, LowercaseLetter, TitlecaseLetter}
use Rattle.ucd_category.specs.declared.GeneralCategory.TheVariants.{ModifierLetter, OtherLetter, DecimalNumber}
use Rattle.ucd_category.specs.declared.GeneralCategory.TheVariants.{LetterNumber, OtherNumber}

-- one of the categories L and N
abbrev pub is_letter_category : GeneralCategory → Bool
is_letter_category UppercaseLetter = true
is_letter_category LowercaseLetter = true
is_letter_category TitlecaseLetter = true
is_letter_category ModifierLetter = true
is_letter_category OtherLetter = true
is_letter_category DecimalNumber = true
is_letter_category LetterNumber = true
is_letter_category OtherNumber = true
is_letter_category _ = false

abbrev pub is_letter_or_number : ℕ → Bool
is_letter_or_number c = is_letter_category (general_category c)

-- some scalar is a letter or a number
abbrev pub has_letter : List ℕ → Bool
has_letter scalars = list_any is_letter_or_number scalars
