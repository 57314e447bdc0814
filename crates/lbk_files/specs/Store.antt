-- The result of a load, by what the store tells about the file.
use Rattle.std.specs.Prelude.{◌≡◌, ℕ, ◌+◌, ◌≤◌, List, take, Option, None, Some, Result, Ok, Err, IfOk, MatchResult, ⊤}
use Rattle.std.specs.Prelude.{Vec, vec_len}
use Rattle.lbk_feed.specs.Devices.{count_up}
use Rattle.lbk_files.specs.declared.store.LoadFault.{LoadFault}
use Rattle.lbk_files.specs.declared.store.LoadFault.TheVariants.{Unreadable, Memory}

-- the bytes are the first most + 1 of the file, or all of a shorter one; for a file that is not told they may be any
abbrev pub IsFront : Option (Option (List ℕ)) → ℕ → List ℕ → Type 0
IsFront None most bytes = ⊤
IsFront (Some None) most bytes = ⊥
IsFront (Some (Some contents)) most bytes = bytes ≡ take (most + 1) contents

-- the file cannot be read, or is not told
abbrev pub IsUnreadable : Option (Option (List ℕ)) → Type 0
IsUnreadable None = ⊤
IsUnreadable (Some None) = ⊤
IsUnreadable (Some (Some contents)) = ⊥

abbrev pub IsLoadFault : Option (Option (List ℕ)) → LoadFault → Type 0
IsLoadFault file Unreadable = IsUnreadable file
IsLoadFault file Memory = ⊤

-- how many loads ran out of memory, after one more with result r
abbrev pub refusals_after : {T : Type 0} → ℕ → Result T LoadFault → ℕ
refusals_after n (Ok _) = n
refusals_after n (Err Unreadable) = n
refusals_after n (Err Memory) = count_up n

-- how many loads a store has made, and how many of these ran out of memory
pub record LoadCounts : Type 0 where
  pub made : ℕ
  pub refused : ℕ

abbrev pub counts_of : ℕ → ℕ → LoadCounts
counts_of made refused = record { made = made; refused = refused }

-- one load of the first most + 1 bytes of a file, by what the store tells about the file
pub record Loads {Z : Type 0} (told : Option (Option (List ℕ))) (most : ℕ) (before after : LoadCounts)
    (result : Result (Vec ℕ Z) LoadFault) : Type 0 where
  pub loaded : MatchResult result (λ bytes. IsFront told most bytes.items) (IsLoadFault told)
  pub within : IfOk result (λ bytes. vec_len bytes ≤ most + 1)
  pub made : after.made ≡ count_up before.made
  pub refused : after.refused ≡ refusals_after before.refused result
