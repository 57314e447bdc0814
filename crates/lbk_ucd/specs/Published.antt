-- Whether a property file is the expected one of Unicode 15.0.0, and the version that another one claims.
use Rattle.std.specs.Prelude.{◌≡◌, ◌≢◌, ℕ, ◌+◌, ◌<◌, ◌^◌, ◌++◌, ◌∷◌, ◌⊎◌, List, [], Some, ⊤, drop, length, codes}
use Rattle.std.specs.Char.{IsNotAsciiDigit}
use Rattle.std.specs.Str.Parse.{IsNumeral, digits_value}
use Rattle.bstr.specs.Find.{FindsNeedle, OccursAt}
use Rattle.lbk_ucd.specs.declared.which.Which.{Which}
use Rattle.lbk_ucd.specs.declared.which.Which.TheVariants.{LineBreak, EastAsianWidth, Category, Emoji}
use Rattle.lbk_ucd.specs.Digests.{IsPublished}
use Rattle.lbk_ucd.specs.declared.published.Version.{Version as Numbers}
use Rattle.lbk_ucd.specs.declared.published.ClaimCause.{ClaimCause}
use Rattle.lbk_ucd.specs.declared.published.ClaimCause.TheVariants.{Title, Version, Changed}

-- the text does not begin with a digit
abbrev pub BeginsWithoutDigit : List ℕ → Type 0
BeginsWithoutDigit [] = ⊤
BeginsWithoutDigit (byte ∷ rest) = IsNotAsciiDigit byte

-- a text begins with the digits of a 32-bit number; the rest comes after all of them
abbrev pub BeginsWithNumber : List ℕ → ℕ → List ℕ → Type 0
BeginsWithNumber text number rest = (digits : List ℕ) × (text ≡ digits ++ rest) × BeginsWithoutDigit rest
    × IsNumeral 10 digits × (number ≡ digits_value 10 digits) × (number < 2 ^ 32)

-- the third number of a version: the one after a second dot (46), or 0 if there is none
abbrev pub EndsVersion : List ℕ → ℕ → Type 0
EndsVersion text update =
    ((rest : List ℕ) × (after : List ℕ) × (text ≡ 46 ∷ rest) × BeginsWithNumber rest update after)
    ⊎ ((update ≡ 0) × (¬ ((number : ℕ) × (rest : List ℕ) × (after : List ℕ) × (text ≡ 46 ∷ rest)
    × BeginsWithNumber rest number after)))

-- a text begins with a version: two numbers with a dot between them, and its third number
abbrev pub BeginsWithVersion : List ℕ → Numbers → Type 0
BeginsWithVersion text version = (rest : List ℕ) × BeginsWithNumber text version.major (46 ∷ rest)
    × ((after : List ℕ) × BeginsWithNumber rest version.minor after × EndsVersion after version.update)

-- the start of a file of any version
abbrev pub name_before_version : Which → List ℕ
name_before_version LineBreak = codes "# LineBreak-"
name_before_version EastAsianWidth = codes "# EastAsianWidth-"
name_before_version Category = codes "# DerivedGeneralCategory-"
name_before_version Emoji = codes "# emoji-data"

-- the text before the version in a file
abbrev pub words_before_version : Which → List ℕ
words_before_version Emoji = codes "\n# Used with Emoji Version "
words_before_version which = name_before_version which

-- the file names itself, and this version after the first words that precede a version
pub record NamesVersion (which : Which) (bytes : List ℕ) (version : Numbers) : Type 0 where
  pub begins : OccursAt bytes (name_before_version which) 0
  pub told : (at : ℕ) × FindsNeedle bytes (words_before_version which) 0 (Some at)
      × BeginsWithVersion (drop (at + length (words_before_version which)) bytes) version

-- the version of the rules
abbrev pub rules_version : Numbers
rules_version = record { major = 15; minor = 0; update = 0 }

-- the cause for a file that is not the published one: it names no version, one other than 15.0.0, or 15.0.0
abbrev pub IsNamedWrong : Which → List ℕ → ClaimCause → Type 0
IsNamedWrong which bytes Title = ¬ ((version : Numbers) × NamesVersion which bytes version)
IsNamedWrong which bytes (Version version) = NamesVersion which bytes version × (version ≢ rules_version)
IsNamedWrong which bytes Changed = NamesVersion which bytes rules_version

-- why a file is refused
abbrev pub IsClaimCause : Which → List ℕ → ClaimCause → Type 0
IsClaimCause which bytes cause = (¬ (IsPublished which bytes)) × IsNamedWrong which bytes cause
