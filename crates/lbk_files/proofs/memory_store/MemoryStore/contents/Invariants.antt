use Rattle.std.proofs.Common.{◌≡◌, drop}
use Rattle.lbk_files.specs.MemoryStore.{contents_of}
use Rattle.lbk_files.proofs.memory_store.MemoryStore.contents.Given as goal

-- none of the files before has the name
abbrev pub invariant-loop-other : goal.invariant-loop-other
invariant-loop-other l = contents_of (drop l.other-index l.self.files.now) l.name ≡ contents_of l.self.files.now l.name
