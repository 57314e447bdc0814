-- The texts that cross to C: what causes say, the names of the files, and the version.
use Rattle.std.specs.Prelude.{ℕ, ◌==◌, List, [], codes, if◌then◌else◌}
use Rattle.std.specs.Option.{option_map_or}
use Rattle.lbk_ucd.specs.declared.faults.UcdCause.TheVariants.{FileTooLong, LineTooLong, RowSyntax, Range}
use Rattle.lbk_ucd.specs.declared.faults.UcdCause.TheVariants.{UnknownValue, Overlap, TooManyRows, Memory}
use Rattle.lbk_ucd.specs.Causes.{cause_text}
use Rattle.lbk_ucd.specs.ClaimTexts.{cut_text}
use Rattle.lbk_ucd.specs.FileNames.{file_name}
use Rattle.lbk_calls.specs.declared.unpacking.Refusal.TheVariants.{Foreign, Version, Damaged}
use Rattle.lbk_calls.specs.Refused.{refusal_number}
use Rattle.lbk_c.specs.Faults.{cause_number, which_numbered}

-- what the cause of a number says
abbrev pub cause_numbered : ℕ → List ℕ
cause_numbered number =
    if number == 0 then codes "no fault"
    else if number == cause_number FileTooLong then cause_text FileTooLong
    else if number == cause_number LineTooLong then cause_text LineTooLong
    else if number == cause_number RowSyntax then cause_text RowSyntax
    else if number == cause_number Range then cause_text Range
    else if number == cause_number UnknownValue then cause_text UnknownValue
    else if number == cause_number Overlap then cause_text Overlap
    else if number == cause_number TooManyRows then cause_text TooManyRows
    else if number == cause_number Memory then cause_text Memory
    else if number == 10 then codes "the file is not the one that Unicode 15.0.0 published"
    else if number == refusal_number Foreign then codes "these bytes are not a packed table"
    else if number == refusal_number Version then codes "the table was packed by another version of lbk"
    else if number == refusal_number Damaged then codes "the packed table was changed or cut"
    else if number == 14 then cut_text
    else []

-- the name of the file of a number
abbrev pub file_numbered : ℕ → List ℕ
file_numbered number =
    if number == 0 then codes "the four files" else option_map_or file_name (which_numbered number) []

abbrev pub version : List ℕ
version = codes "0.2.0"
