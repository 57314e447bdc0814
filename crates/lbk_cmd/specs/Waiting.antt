-- Lines in a buffer.
use Rattle.std.specs.Prelude.{ℕ, List, take}
use Rattle.lbk_cmd.specs.declared.waiting.Waiting.{Waiting}

abbrev pub waiting_in : Waiting → List ℕ
waiting_in w = take w.len w.bytes
