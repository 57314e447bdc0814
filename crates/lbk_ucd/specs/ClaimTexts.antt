-- The texts about files that are not the published ones. The program and all languages use these sentences.
use Rattle.std.specs.Prelude.{ℕ, ◌==◌, List, ◌∷◌, ◌++◌, codes, decimal, if◌then◌else◌}
use Rattle.lbk_ucd.specs.declared.which.Which.{Which}
use Rattle.lbk_ucd.specs.declared.which.Which.TheVariants.{Emoji}
use Rattle.lbk_ucd.specs.FileNames.{file_name}
use Rattle.lbk_ucd.specs.declared.published.Version.{Version as Numbers}
use Rattle.lbk_ucd.specs.declared.published.ClaimCause.{ClaimCause}
use Rattle.lbk_ucd.specs.declared.published.ClaimCause.TheVariants.{Title, Version, Changed}

-- two numbers of a version with a dot (46) between them, or all three, and the text after them
abbrev pub two_numbers : Numbers → List ℕ → List ℕ
two_numbers v rest = decimal v.major ++ (46 ∷ (decimal v.minor ++ rest))

abbrev pub three_numbers : Numbers → List ℕ → List ℕ
three_numbers v rest = two_numbers v (46 ∷ (decimal v.update ++ rest))

-- a file of another version; that of emoji has a third number only if it is not 0
abbrev pub version_text : Which → Numbers → List ℕ
version_text Emoji v = if v.update == 0 then codes "this is Emoji " ++ two_numbers v (codes ", and lbk needs 15.0")
    else codes "this is Emoji " ++ three_numbers v (codes ", and lbk needs 15.0.0")
version_text which v = codes "this is Unicode " ++ three_numbers v (codes ", and lbk needs 15.0.0")

-- the text about a file that is not the published one
abbrev pub claim_text : Which → ClaimCause → List ℕ
claim_text which Title = codes "this is not " ++ (file_name which ++ codes " of the Unicode Character Database")
claim_text which (Version v) = version_text which v
claim_text which Changed = codes "the file was changed or truncated: it differs from Unicode 15.0.0's "
    ++ file_name which

-- the text about a truncated file
abbrev pub cut_text : List ℕ
cut_text = codes "the file was truncated: its first line names a published file, but its last is not # EOF"

-- where to get the published files
abbrev pub remedy_text : List ℕ
remedy_text = codes "get it from Debian 12's unicode-data or https://www.unicode.org/Public/15.0.0/ucd/UCD.zip"
