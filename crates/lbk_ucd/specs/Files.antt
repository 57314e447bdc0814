-- The four property files together: without a fault, or refused at the first fault of the first file that has one.
use Rattle.std.specs.Prelude.{ℕ}
use Rattle.lbk_ucd.specs.declared.which.Which.{Which}
use Rattle.lbk_ucd.specs.declared.which.Which.TheVariants.{LineBreak, EastAsianWidth, Category, Emoji}
use Rattle.lbk_ucd.specs.declared.faults.UcdCause.{UcdCause}
use Rattle.lbk_ucd.specs.declared.faults.UcdFault.{UcdFault}
use Rattle.lbk_ucd.specs.declared.tables.Files.{Files}
use Rattle.lbk_ucd.specs.File.{IsLawful, IsRefusal}
use Rattle.lbk_ucd.specs.Names.{line_break_format, east_asian_format, category_format, emoji_format}

-- no file has a fault
pub record AreLawful (files : Files) : Type 0 where
  pub line_break : IsLawful line_break_format files.line_break.now
  pub east_asian : IsLawful east_asian_format files.east_asian.now
  pub category : IsLawful category_format files.category.now
  pub emoji : IsLawful emoji_format files.emoji.now

-- a file is refused at this line for this cause, and those before it have no fault
abbrev pub IsRefusedIn : Files → Which → ℕ → UcdCause → Type 0
IsRefusedIn files LineBreak line cause = IsRefusal line_break_format files.line_break.now line cause
IsRefusedIn files EastAsianWidth line cause =
    IsLawful line_break_format files.line_break.now × IsRefusal east_asian_format files.east_asian.now line cause
IsRefusedIn files Category line cause =
    IsLawful line_break_format files.line_break.now × IsLawful east_asian_format files.east_asian.now
    × IsRefusal category_format files.category.now line cause
IsRefusedIn files Emoji line cause =
    IsLawful line_break_format files.line_break.now × IsLawful east_asian_format files.east_asian.now
    × IsLawful category_format files.category.now × IsRefusal emoji_format files.emoji.now line cause

abbrev pub IsRefused : Files → UcdFault → Type 0
IsRefused files fault = IsRefusedIn files fault.file fault.line fault.cause
