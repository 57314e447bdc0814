-- The texts of the causes of faults.
use Rattle.std.specs.Prelude.{ℕ, List, codes}
use Rattle.lbk_ucd.specs.declared.faults.UcdCause.{UcdCause}
use Rattle.lbk_ucd.specs.declared.faults.UcdCause.TheVariants.{FileTooLong, LineTooLong, RowSyntax, Range}
use Rattle.lbk_ucd.specs.declared.faults.UcdCause.TheVariants.{UnknownValue, Overlap, TooManyRows, Memory}

abbrev pub cause_text : UcdCause → List ℕ
cause_text FileTooLong = codes "the file has more than 8388608 bytes"
cause_text LineTooLong = codes "the line has more than 1024 bytes"
cause_text RowSyntax = codes "the line is neither a row `code; value` nor a comment nor blank"
cause_text Range = codes "the first code point is above the last, or one is above 10FFFF"
cause_text UnknownValue = codes "unknown property value; lbk knows those of Unicode 15.0 and earlier"
cause_text Overlap = codes "the row overlaps an earlier row"
cause_text TooManyRows = codes "the file has more than 65536 rows and @missing lines"
cause_text Memory = codes "out of memory"
