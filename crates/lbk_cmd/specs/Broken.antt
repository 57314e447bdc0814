-- The result of `break_text`, by the files and by what it read.
use Rattle.std.specs.Prelude.{◌≡◌, ◌⊎◌, ℕ, List, map, Option, Result, Ok, Err, IfSome, IfErr, OnOk, IsUtf8}
use Rattle.std.specs.Str.{chars}
use Rattle.lbk_ucd.specs.Files.{AreLawful}
use Rattle.lbk_ucd.specs.declared.tables.Files.{Files}
use Rattle.lbk_rules.specs.declared.Cell.{Cell}
use Rattle.lbk_values.specs.declared.profile.Profile.{Profile}
use Rattle.lbk_passage.specs.Marks.{Marked, scalars_of}
use Rattle.lbk_notation.specs.TestLine.{Line}
use Rattle.lbk_notation.specs.Shown.{passage_marks}
use Rattle.lbk_files.specs.Cells.{AreCellsOf}
use Rattle.lbk_files.specs.CellsRefusal.{IsCellsRefusal}
use Rattle.lbk_cmd.specs.Acts.{Shows}
use Rattle.lbk_cmd.specs.Devices.{Devices}
use Rattle.lbk_cmd.specs.Headline.{ArePassagesOf}
use Rattle.lbk_cmd.specs.Show.{verdicts_of}
use Rattle.lbk_cmd.specs.declared.broken.BreakFault.{BreakFault}
use Rattle.lbk_cmd.specs.declared.broken.BreakFault.TheVariants.{Files as files_fault, Text as text_fault}
use Rattle.lbk_cmd.specs.declared.faults.CmdFault.{CmdFault}
use Rattle.lbk_cmd.specs.declared.faults.CmdFault.TheVariants.{Memory, Write}
use Rattle.lbk_feed.specs.Devices.{count_up}

-- what the line of a passage says: its scalars, and the marks of its positions
abbrev pub said : List Marked → Line
said ms = passage_marks (scalars_of ms) (verdicts_of ms)

-- each line is that of one passage of the text, in order
pub record SayPassages (files : Files) (profile : Profile) (text : List ℕ) (lines : List Line) : Type 0 where
  pub passages : List (List Marked)
  pub are : ArePassagesOf files profile text passages
  pub say : lines ≡ map said passages

-- the bytes read (all of the reader's, if it tells them) are a text, and the lines are those of its passages
pub record IsBroken (files : Files) (profile : Profile) (unread : Option (List ℕ)) (lines : List Line) : Type 0 where
  pub bytes : List ℕ
  pub read : IfSome unread (λ input. bytes ≡ input)
  pub utf8 : IsUtf8 bytes
  pub say : SayPassages files profile (chars bytes) lines

-- `show` with cells of the files has this result
abbrev pub ShowsBy : Files → ℕ → Profile → Devices → Devices → Result (Unit {0}) CmdFault → Type 0
ShowsBy files limit profile before after answer = (cell : ℕ → Cell) × AreCellsOf files cell
    × Shows cell limit profile before after answer

-- the files have no fault, and `show` with their cells reads a text to its end
pub record ReadsWhole (files : Files) (limit : ℕ) (profile : Profile) (before after : Devices) : Type 0 where
  pub lawful : AreLawful files
  pub shows : ShowsBy files limit profile before after (Ok (tt {0}))

-- the files are refused, and nothing is read; or `show` stops by their cells
abbrev pub IsBreakFault : Files → ℕ → Profile → Devices → Devices → BreakFault → Type 0
IsBreakFault files limit profile before after (files_fault fault) = IsCellsRefusal files fault × (after ≡ before)
IsBreakFault files limit profile before after (text_fault fault) = ShowsBy files limit profile before after (Err fault)

-- a write failed, too
abbrev pub with_failed_write : Devices → Devices
with_failed_write d = record d { failed_writes = count_up d.failed_writes }

-- `show` stops so; or memory could not grow for its lines, which is a failed write to memory
abbrev pub ShowStops : (ℕ → Cell) → ℕ → Profile → Devices → Devices → CmdFault → Type 0
ShowStops cell limit profile before after fault = Shows cell limit profile before after (Err fault)
    ⊎ ((fault ≡ Memory) × Shows cell limit profile before (with_failed_write after) (Err Write))

-- the same for lines that are read back; or all of them were written, and memory could not grow for their meaning
abbrev pub IsLinesFault : Files → ℕ → Profile → Devices → Devices → BreakFault → Type 0
IsLinesFault files limit profile before after (files_fault fault) = IsCellsRefusal files fault × (after ≡ before)
IsLinesFault files limit profile before after (text_fault fault) = (cell : ℕ → Cell) × AreCellsOf files cell
    × (ShowStops cell limit profile before after fault
    ⊎ ((fault ≡ Memory) × Shows cell limit profile before after (Ok tt)))

-- what was read of a text, and why it is refused: as `Refuses` says
pub record ReadsBy {X : Type 0} (Refuses : Files → ℕ → Profile → Devices → Devices → BreakFault → Type 0)
    (files : Files) (limit : ℕ) (profile : Profile) (before after : Devices)
    (result : Result X BreakFault) : Type 0 where
  pub whole : OnOk result (ReadsWhole files limit profile before after)
  pub refused : IfErr result (Refuses files limit profile before after)
