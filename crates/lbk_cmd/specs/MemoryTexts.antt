-- What texts in memory tell, and their record of refused ones.
use Rattle.std.specs.Prelude.{◌≡◌, ◌⊎◌, ◌≤◌, ◌++◌, ◌∷◌, ℕ, List, [], None, Option, Some, vec_capacity, vec_len}
use Rattle.lbk_files.specs.MemoryStore.{contents_of, named_files}
use Rattle.lbk_files.specs.declared.memory_store.MemoryStore.{MemoryStore}
use Rattle.lbk_cmd.specs.Operands.{Refusals}
use Rattle.lbk_cmd.specs.declared.ending.RunFault.{RunFault}
use Rattle.lbk_cmd.specs.declared.operands.MemoryTexts.{MemoryTexts}

-- the texts, by their names
abbrev pub files_of : MemoryTexts → MemoryStore
files_of texts = texts.files

-- why texts were refused, in order
abbrev pub faults_of : MemoryTexts → List RunFault
faults_of texts = texts.refused.items

-- the content of the file with a name
abbrev pub told_by : MemoryTexts → List ℕ → Option (Option (List ℕ))
told_by texts name = Some (contents_of (named_files (files_of texts)) name)

-- what was refused is not told, because the list may not grow
abbrev pub refusals_told_by : MemoryTexts → Refusals
refusals_told_by texts = None

-- a fault is appended to the list, unless the list is full; then it stays as it is
abbrev pub Notes : RunFault → MemoryTexts → MemoryTexts → Type 0
Notes fault old new = (faults_of new ≡ faults_of old ++ fault ∷ [])
    ⊎ ((faults_of new ≡ faults_of old) × (vec_capacity old.refused ≤ vec_len old.refused))
