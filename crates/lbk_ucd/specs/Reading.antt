-- What each line adds to the gathered rows and defaults, and what a file gives.
use Rattle.std.specs.Prelude.{ℕ, ◌≡◌, ◌⊎◌, ◌+◌, length, List, ◌++◌, Option, Some, None, IsSome, Result, IfOk, IfErr, OnOk}
use Rattle.std.specs.Option.{option_to_list}
use Rattle.lbk_ucd.specs.declared.ranges.Assigned.{Assigned}
use Rattle.lbk_ucd.specs.declared.ranges.Row.{Row}
use Rattle.lbk_ucd.specs.declared.gathered.Gathered.{Gathered}
use Rattle.lbk_ucd.specs.declared.faults.UcdCause.{UcdCause}
use Rattle.lbk_ucd.specs.declared.faults.UcdCause.TheVariants.{Memory}
use Rattle.lbk_ucd.specs.declared.faults.UcdFault.{UcdFault}
use Rattle.lbk_ucd.specs.declared.which.Which.{Which}
use Rattle.lbk_ucd.specs.File.{Format, IsLawful, IsRefusal, property_of}
use Rattle.lbk_ucd.specs.Tables.{value_of}

-- how many rows and defaults there are
abbrev pub count_of : {V : Type 0} → Gathered V → ℕ
count_of gathered = length gathered.rows.items + length gathered.defaults.items

-- new has what old has, plus the row and the default, if there are any
pub record Adds {V : Type 0} (row default : Option (Row V)) (old new : Gathered V) : Type 0 where
  pub rows : new.rows.items ≡ old.rows.items ++ option_to_list row
  pub defaults : new.defaults.items ≡ old.defaults.items ++ option_to_list default
  pub unlisted : new.unlisted ≡ old.unlisted

-- the cause that was found, or Memory if none was found and there is something to keep
abbrev pub IsAnswered : {V : Type 0} → Option UcdCause → Option (Row V) → Option (Row V) → UcdCause → Type 0
IsAnswered found row default cause =
    (found ≡ Some cause) ⊎ ((cause ≡ Memory) × (found ≡ None) × (IsSome row ⊎ IsSome default))

-- a file without a fault gives each code point its property, and another is refused at its first fault or for want of
-- memory
pub record IsRead {V : Type 0} (which : Which) (format : Format V) (bytes : List ℕ) (result : Result (Assigned V) UcdFault) : Type 0 where
  pub lawful : OnOk result (IsLawful format bytes)
  pub properties : IfOk result (λ assigned. (code : ℕ) → value_of assigned code ≡ property_of format bytes code)
  pub file : IfErr result (λ fault. fault.file ≡ which)
  pub refused : IfErr result (λ fault. IsRefusal format bytes fault.line fault.cause)
