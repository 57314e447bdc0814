-- The names of the four property files.
use Rattle.std.specs.Prelude.{ℕ, List, codes}
use Rattle.lbk_ucd.specs.declared.which.Which.{Which}
use Rattle.lbk_ucd.specs.declared.which.Which.TheVariants.{LineBreak, EastAsianWidth, Category, Emoji}

-- the name of each file of the Unicode Character Database
abbrev pub file_name : Which → List ℕ
file_name LineBreak = codes "LineBreak.txt"
file_name EastAsianWidth = codes "EastAsianWidth.txt"
file_name Category = codes "DerivedGeneralCategory.txt"
file_name Emoji = codes "emoji-data.txt"
