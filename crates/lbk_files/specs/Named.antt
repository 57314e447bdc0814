-- The named files, and what a store tells about them.
use Rattle.std.specs.Prelude.{◌≡◌, ℕ, List, ◌∷◌, ◌++◌, Option, true, false, ⊤, codes}
use Rattle.lbk_ucd.specs.declared.which.Which.{Which}
use Rattle.lbk_ucd.specs.declared.which.Which.TheVariants.{LineBreak, EastAsianWidth, Category, Emoji}
use Rattle.lbk_args.specs.Task.{Named, NamedFiles, given, in_folder}
use Rattle.lbk_files.specs.Store.{IsUnreadable}
use Rattle.lbk_files.specs.FileFault.{FourFiles, IsUnlikeItsClaim, Told}
use Rattle.lbk_files.specs.declared.faults.CellsFault.{CellsFault}
use Rattle.lbk_files.specs.declared.faults.CellsFault.TheVariants.{Load, Claim, Tables, Memory}

-- the name of each file in a folder of the Unicode Character Database
abbrev pub name_in_database : Which → List ℕ
name_in_database LineBreak = codes "LineBreak.txt"
name_in_database EastAsianWidth = codes "EastAsianWidth.txt"
name_in_database Category = codes "extracted/DerivedGeneralCategory.txt"
name_in_database Emoji = codes "emoji/emoji-data.txt"

-- the path of a file in a folder: the folder's name, a slash (47) and the file's name
abbrev pub joined : List ℕ → Which → List ℕ
joined folder which = folder ++ (47 ∷ name_in_database which)

-- what is told about a file: about one that an option names, or about one in a folder, which must be the published
-- one
abbrev pub told_of : (List ℕ → Option (Option (List ℕ))) → Which → Named → Told
told_of file which (given name) = record { contents = file name; is_claimed = false }
told_of file which (in_folder folder) = record { contents = file (joined folder which); is_claimed = true }

-- what is told about the four files
abbrev pub files_of : (List ℕ → Option (Option (List ℕ))) → NamedFiles → FourFiles
files_of file files = record {
  line_break = told_of file LineBreak files.line_break;
  east_asian = told_of file EastAsianWidth files.east_asian;
  category = told_of file Category files.category;
  emoji = told_of file Emoji files.emoji;
}

-- why one file is not loaded
abbrev pub IsOneFault : Which → Told → CellsFault → Type 0
IsOneFault which file (Load other) = (other ≡ which) × IsUnreadable file.contents
IsOneFault which file (Claim other cause) = (other ≡ which) × IsUnlikeItsClaim which cause file
IsOneFault which file (Tables fault) = ⊥
IsOneFault which file Memory = ⊤
