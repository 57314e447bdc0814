-- The four files of a task, loaded in order, then read: their cells, or the fault.
use Rattle.std.specs.Prelude.{◌≡◌, ◌⊎◌, ℕ, Bool, List, Option, IsTrue, ⊤}
use Rattle.lbk_feed.specs.Devices.{count_up}
use Rattle.lbk_ucd.specs.declared.tables.Files.{Files}
use Rattle.lbk_ucd.specs.declared.which.Which.{Which}
use Rattle.lbk_ucd.specs.declared.which.Which.TheVariants.{LineBreak, EastAsianWidth, Category, Emoji}
use Rattle.lbk_ucd.specs.File.{longest_file}
use Rattle.lbk_ucd.specs.Files.{AreLawful, IsRefused}
use Rattle.lbk_rules.specs.declared.Cell.{Cell}
use Rattle.lbk_rules.specs.Cells.{AreCellsOf}
use Rattle.lbk_files.specs.Store.{IsFront, IsUnreadable, LoadCounts}
use Rattle.lbk_ucd.specs.Digests.{IsPublished}
use Rattle.lbk_ucd.specs.Published.{IsClaimCause}
use Rattle.lbk_ucd.specs.declared.published.ClaimCause.{ClaimCause}
use Rattle.lbk_files.specs.declared.faults.CellsFault.{CellsFault}
use Rattle.lbk_files.specs.declared.faults.CellsFault.TheVariants.{Load, Claim, Tables, Memory}

-- what a store tells about a file, and whether it has to be the published one, because no option names it
pub record Told : Type 0 where
  pub contents : Option (Option (List ℕ))
  pub is_claimed : Bool

-- what a store tells about the four files
pub record FourFiles : Type 0 where
  pub line_break : Told
  pub east_asian : Told
  pub category : Told
  pub emoji : Told

-- the bytes are the result of loading the file: up to one more than a file may have, so that a longer one is refused as
-- too long
abbrev pub IsRead : Told → List ℕ → Type 0
IsRead file bytes = IsFront file.contents longest_file bytes

-- and they are the published ones, if they have to be
pub record IsLoaded (which : Which) (file : Told) (bytes : List ℕ) : Type 0 where
  pub read : IsRead file bytes
  pub claim : IsTrue file.is_claimed → IsPublished which bytes

-- all four are loaded
pub record AreLoaded (four : FourFiles) (files : Files) : Type 0 where
  pub line_break : IsLoaded LineBreak four.line_break files.line_break.now
  pub east_asian : IsLoaded EastAsianWidth four.east_asian files.east_asian.now
  pub category : IsLoaded Category four.category files.category.now
  pub emoji : IsLoaded Emoji four.emoji files.emoji.now

-- a file can be loaded
abbrev pub CanLoad : Which → Told → Type 0
CanLoad which file = (bytes : List ℕ) × IsLoaded which file bytes

-- this file is so, and the files before it can be loaded
abbrev pub IsFirst : FourFiles → Which → (Told → Type 0) → Type 0
IsFirst four LineBreak Is = Is four.line_break
IsFirst four EastAsianWidth Is = CanLoad LineBreak four.line_break × Is four.east_asian
IsFirst four Category Is = CanLoad LineBreak four.line_break × CanLoad EastAsianWidth four.east_asian × Is four.category
IsFirst four Emoji Is = CanLoad LineBreak four.line_break × CanLoad EastAsianWidth four.east_asian
    × CanLoad Category four.category × Is four.emoji

-- a loaded file has to be the published one, and is not
abbrev pub IsUnlikeItsClaim : Which → ClaimCause → Told → Type 0
IsUnlikeItsClaim which cause file =
    IsTrue file.is_claimed × ((bytes : List ℕ) × IsRead file bytes × IsClaimCause which bytes cause)

-- the cells are those of the four files, which have no fault
pub record AreCellsFrom (four : FourFiles) (cell : ℕ → Cell) : Type 0 where
  pub files : Files
  pub loaded : AreLoaded four files
  pub lawful : AreLawful files
  pub cells : AreCellsOf files cell

-- how many loads were made up to that of a file, after so many: one for each
abbrev pub loads_to : Which → ℕ → ℕ
loads_to LineBreak made = count_up made
loads_to EastAsianWidth made = count_up (count_up made)
loads_to Category made = count_up (count_up (count_up made))
loads_to Emoji made = count_up (count_up (count_up (count_up made)))

-- the load of this file is the last
abbrev pub LoadsTo : Which → LoadCounts → LoadCounts → Type 0
LoadsTo which before after = after.made ≡ loads_to which before.made

-- a file has to be the published one, because it is in a folder; its path needs memory
abbrev pub IsAnyClaimed : FourFiles → Type 0
IsAnyClaimed four = IsTrue four.line_break.is_claimed ⊎ (IsTrue four.east_asian.is_claimed
    ⊎ (IsTrue four.category.is_claimed ⊎ IsTrue four.emoji.is_claimed))

-- the load of a file ran out of memory: the files before it can be loaded, and no more is
abbrev pub IsLoadRefused : FourFiles → LoadCounts → LoadCounts → Type 0
IsLoadRefused four before after = (which : Which) × IsFirst four which (λ file. ⊤) × LoadsTo which before after
    × (after.refused ≡ count_up before.refused)

-- all four are loaded, and this is the result
abbrev pub AllLoaded : FourFiles → LoadCounts → LoadCounts → (Files → Type 0) → Type 0
AllLoaded four before after Are = ((files : Files) × AreLoaded four files × Are files) × LoadsTo Emoji before after

-- out of memory: before any load, if a path has to be made; in a load; or once all four files are loaded without a
-- fault
abbrev pub IsOutOfMemory : FourFiles → LoadCounts → LoadCounts → Type 0
IsOutOfMemory four before after =
    (IsAnyClaimed four × (after ≡ before)) ⊎ (IsLoadRefused four before after ⊎ AllLoaded four before after AreLawful)

-- a file cannot be read or is not the published one, and no more is loaded; or all are loaded and refused; or out of
-- memory
abbrev pub IsFileFault : FourFiles → LoadCounts → LoadCounts → CellsFault → Type 0
IsFileFault four before after (Load which) = IsFirst four which (λ file. IsUnreadable file.contents)
    × LoadsTo which before after
IsFileFault four before after (Claim which cause) = IsFirst four which (IsUnlikeItsClaim which cause)
    × LoadsTo which before after
IsFileFault four before after (Tables fault) = AllLoaded four before after (λ files. IsRefused files fault)
IsFileFault four before after Memory = IsOutOfMemory four before after
