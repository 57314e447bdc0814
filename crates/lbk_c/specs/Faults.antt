-- Why no table was made, as numbers.
use Rattle.std.specs.Prelude.{◌≡◌, ◌⊎◌, ℕ, ◌==◌, List, Option, Some, None, if◌then◌else◌}
use Rattle.std.specs.Borrow.{Bor}
use Rattle.lbk_ucd.specs.declared.faults.UcdCause.{UcdCause}
use Rattle.lbk_ucd.specs.declared.faults.UcdCause.TheVariants.{FileTooLong, LineTooLong, RowSyntax, Range}
use Rattle.lbk_ucd.specs.declared.faults.UcdCause.TheVariants.{UnknownValue, Overlap, TooManyRows, Memory}
use Rattle.lbk_ucd.specs.declared.faults.UcdFault.{UcdFault}
use Rattle.lbk_ucd.specs.declared.tables.Files.{Files}
use Rattle.lbk_ucd.specs.declared.which.Which.{Which}
use Rattle.lbk_ucd.specs.declared.which.Which.TheVariants.{LineBreak, EastAsianWidth, Category, Emoji}
use Rattle.lbk_ucd.specs.Files.{AreLawful, IsRefused}
use Rattle.lbk_ucd.specs.Digests.{ArePublished, IsFirstUnpublished}
use Rattle.lbk_c.specs.declared.interface.Fault.{Fault}

-- the number of a property file
abbrev pub file_number : Which → ℕ
file_number LineBreak = 1
file_number EastAsianWidth = 2
file_number Category = 3
file_number Emoji = 4

-- the file of a number
abbrev pub which_numbered : ℕ → Option Which
which_numbered number =
    if number == file_number LineBreak then Some LineBreak
    else if number == file_number EastAsianWidth then Some EastAsianWidth
    else if number == file_number Category then Some Category
    else if number == file_number Emoji then Some Emoji
    else None

-- the number of a cause
abbrev pub cause_number : UcdCause → ℕ
cause_number FileTooLong = 1
cause_number LineTooLong = 2
cause_number RowSyntax = 3
cause_number Range = 4
cause_number UnknownValue = 5
cause_number Overlap = 6
cause_number TooManyRows = 7
cause_number Memory = 8

-- a fault of the files, as it is given
abbrev pub given_fault : UcdFault → Fault
given_fault fault = record { file = file_number fault.file; line = fault.line; cause = cause_number fault.cause }

abbrev pub no_fault : Fault
no_fault = record { file = 0; line = 0; cause = 0 }

-- of lawful files no table was made: a growth of memory was refused
abbrev pub unmade_fault : Fault
unmade_fault = record { file = 0; line = 0; cause = 8 }

-- the four files of a call
abbrev pub files_of : Bor (List ℕ) → Bor (List ℕ) → Bor (List ℕ) → Bor (List ℕ) → Files
files_of line_break east_asian category emoji = record {
  line_break = line_break;
  east_asian = east_asian;
  category = category;
  emoji = emoji;
}

-- why no table was made of the files
abbrev pub IsFaultOf : Files → Fault → Type 0
IsFaultOf files fault =
    ((found : UcdFault) × IsRefused files found × (fault ≡ given_fault found))
    ⊎ (AreLawful files × (fault ≡ unmade_fault))

-- a file is not the published one
abbrev pub unpublished_fault : Which → Fault
unpublished_fault which = record { file = file_number which; line = 0; cause = 10 }

-- why no table was made of files that have to be the published ones
abbrev pub IsFaultOfPublished : Files → Fault → Type 0
IsFaultOfPublished files fault =
    ((which : Which) × IsFirstUnpublished files which × (fault ≡ unpublished_fault which))
    ⊎ (ArePublished files × IsFaultOf files fault)
