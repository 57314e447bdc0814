-- A store over files that are opened.
use Rattle.std.specs.Prelude.{◌≡◌, ◌⊎◌, ℕ, List, Option, Some, None, ⊤}
use Rattle.lbk_feed.specs.Devices.{count_up}
use Rattle.lbk_feed.specs.declared.traits.Source.{Ghosts as SourceMembers}
use Rattle.lbk_files.specs.Store.{IsUnreadable}
use Rattle.lbk_files.specs.declared.file_store.FileStore.{FileStore}
use Rattle.lbk_files.specs.declared.store.LoadFault.{LoadFault}
use Rattle.lbk_files.specs.declared.store.LoadFault.TheVariants.{Unreadable, Memory}

-- what opens its files
abbrev pub opener_of : {O : Type 0} → FileStore O → O
opener_of store = store.opener.now

-- how many loads were made, and how many of them ran out of memory
abbrev pub loads_of : {O : Type 0} → FileStore O → ℕ
loads_of store = store.loads

abbrev pub refusals_of : {O : Type 0} → FileStore O → ℕ
refusals_of store = store.refusals

-- a file was opened, and all its content is unread, if both are told
abbrev pub AreLeft : Option (Option (List ℕ)) → Option (List ℕ) → Type 0
AreLeft None unread = ⊤
AreLeft (Some None) unread = ⊥
AreLeft (Some (Some contents)) unread = unread ≡ Some contents

-- a file was opened, and a read of it failed
pub record IsReadInVain {F : Type 0} (source : SourceMembers F) (told : Option (Option (List ℕ))) : Type 0 where
  pub opened : F
  pub left : F
  pub whole : AreLeft told (source.unread opened)
  pub failed : source.failure_count left ≡ count_up (source.failure_count opened)

-- why a file has no bytes: it cannot be opened, a read of it failed, or memory could not grow
abbrev pub IsRefusalOf : {F : Type 0} → SourceMembers F → Option (Option (List ℕ)) → LoadFault → Type 0
IsRefusalOf source told Unreadable = IsUnreadable told ⊎ IsReadInVain source told
IsRefusalOf source told Memory = ⊤

-- nothing is told about the content of its files, because a read may fail
abbrev pub tells : {O : Type 0} → FileStore O → List ℕ → Option (Option (List ℕ))
tells store name = None
