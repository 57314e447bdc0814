-- The result for arguments without a task.
use Rattle.std.specs.Prelude.{◌≡◌, ◌≢◌, ◌⊎◌, ⊤}
use Rattle.clap.specs.Words.{IsAmong, Kinds}
use Rattle.clap.specs.declared.error.kind.ErrorKind.{ErrorKind}
use Rattle.clap.specs.declared.error.kind.ErrorKind.TheVariants.{DisplayHelp, DisplayVersion, OutOfMemory}
use Rattle.lbk_args.specs.declared.order.WordsFault.{WordsFault}
use Rattle.lbk_args.specs.declared.order.WordsFault.TheVariants.{Help, Usage, Memory}

-- a call for help or for the version
abbrev pub IsCallForHelp : ErrorKind → Type 0
IsCallForHelp kind = (kind ≡ DisplayHelp) ⊎ (kind ≡ DisplayVersion)

-- a mistake in the arguments; running out of memory is none
abbrev pub IsMistake : ErrorKind → Type 0
IsMistake kind = (kind ≢ DisplayHelp) × (kind ≢ DisplayVersion) × (kind ≢ OutOfMemory)

-- one of the faults is a mistake
abbrev pub HasFault : (ErrorKind → Type 0) → Kinds → Type 0
HasFault Is faults = (kind : ErrorKind) × IsAmong kind faults × Is kind

-- the result is help for a request for it, and usage for a mistake, among the faults of the arguments
abbrev pub IsRefusalBy : Kinds → WordsFault → Type 0
IsRefusalBy faults (Help text) = HasFault IsCallForHelp faults
IsRefusalBy faults (Usage text) = HasFault IsMistake faults
IsRefusalBy faults Memory = ⊤
