use Rattle.std.proofs.Common.{◌≡◌, ◌+◌, List, ◌++◌, drop, map, take}
use Rattle.lbk_rules.specs.declared.Break.{Break}
use Rattle.lbk_bytes.specs.Shown.{shown}
use Rattle.lbk_passage.specs.Cuts.{cut_at}
use Rattle.lbk_passage.specs.Front.{items_of}
use Rattle.lbk_passage.proofs.segments.cut_block.Given as goal

abbrev pub invariant-loop-one : goal.invariant-loop-one
invariant-loop-one l = record {
  cut : (more : List Break) → take l.count l.slots ++ cut_at l.start (drop l.one-index (map shown l.block) ++ more)
      ≡ items_of l.fn.segments ++ cut_at l.fn.start (map shown l.block ++ more);
  count : l.count ≡ l.fn.segments.count + l.one-index;
}
