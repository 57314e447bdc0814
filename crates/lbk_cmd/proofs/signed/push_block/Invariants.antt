use Rattle.std.proofs.Common.{◌≡◌, ◌-◌, ◌≤◌, ◌++◌, List, drop, length, map, take}
use Rattle.lbk_rules.specs.declared.Break.{Break}
use Rattle.lbk_bytes.specs.Shown.{shown}
use Rattle.lbk_cmd.specs.Signing.{IsCut, signed_from}
use Rattle.lbk_cmd.proofs.signed.push_block.Given as goal

-- what is still to come stands behind what was put
abbrev pub invariant-loop-next : goal.invariant-loop-next
invariant-loop-next l = record {
  within : l.next ≤ length l.block;
  cut : IsCut l.done (length l.text) (drop l.next (map shown l.block));
  put : (more : List Break) → l.out.items ++ signed_from l.mark l.text l.done (drop l.next (map shown l.block) ++ more)
      ≡ l.fn.out.items ++ signed_from l.mark l.text l.start (map shown l.block ++ more);
  on : (more : List Break) → IsCut l.start (length l.text) (map shown l.block ++ more)
      → IsCut l.done (length l.text) (drop l.next (map shown l.block) ++ more);
  kept : take (length l.fn.out.items) l.out.items ≡ l.fn.out.items;
}

abbrev pub decreases-loop-next : goal.decreases-loop-next
decreases-loop-next l = length l.block - l.next
