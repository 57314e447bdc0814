-- The content of a store in memory.
use Rattle.std.specs.Prelude.{ℕ, List, Option, option_map}
use Rattle.std.specs.Borrow.{Bor}
use Rattle.std.specs.List.{find}
use Rattle.std.specs.Str.{bytes_eq}
use Rattle.lbk_files.specs.declared.memory_store.MemoryStore.{MemoryStore}

-- the names of the files with their content
abbrev pub named_files : MemoryStore → List (Bor (List ℕ) × Bor (List ℕ))
named_files store = store.files.now

-- how many loads were made
abbrev pub loads_of : MemoryStore → ℕ
loads_of store = store.loads

-- how many of them ran out of memory
abbrev pub refusals_of : MemoryStore → ℕ
refusals_of store = store.refusals

-- the content of the first file with a name
abbrev pub contents_of : List (Bor (List ℕ) × Bor (List ℕ)) → List ℕ → Option (List ℕ)
contents_of files name = option_map (λ file. file.1.now) (find (λ file. bytes_eq file.0.now name) files)
