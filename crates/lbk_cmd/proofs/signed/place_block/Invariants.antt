use Rattle.std.proofs.Common.{◌≡◌, ◌-◌, ◌≤◌, ◌++◌, List, drop, length, map, take}
use Rattle.lbk_rules.specs.declared.Break.{Break}
use Rattle.lbk_bytes.specs.Shown.{shown}
use Rattle.lbk_cmd.specs.Signing.{IsCut, signed_from}
use Rattle.lbk_cmd.proofs.signed.place_block.Given as goal

-- what is still to come stands behind what was put
abbrev pub invariant-loop-put : goal.invariant-loop-put
invariant-loop-put l = record {
  within : (l.from ≤ l.put.next) × (l.put.next ≤ length l.block) × (l.put.len ≤ 1000);
  cut : IsCut l.put.done (length l.text) (drop l.put.next (map shown l.block));
  put : (more : List Break) → take l.put.len l.part ++ signed_from l.mark l.text l.put.done (drop l.put.next (map shown l.block) ++ more)
      ≡ signed_from l.mark l.text l.start (drop l.from (map shown l.block) ++ more);
  on : (more : List Break) → IsCut l.start (length l.text) (drop l.from (map shown l.block) ++ more)
      → IsCut l.put.done (length l.text) (drop l.put.next (map shown l.block) ++ more);
}

abbrev pub decreases-loop-put : goal.decreases-loop-put
decreases-loop-put l = length l.block - l.put.next
