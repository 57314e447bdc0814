use Rattle.std.proofs.Common.{◌≡◌, ◌+◌, ◌++◌, length, take}
use Rattle.lbk_bytes.specs.Shown.{given_in}
use Rattle.lbk_passage.proofs.found.put_breaks.Given as goal

abbrev pub invariant-loop-k : goal.invariant-loop-k
invariant-loop-k l = record {
  long : length l.block ≡ length l.fn.block;
  front : take (l.count + l.k) l.block ≡ take l.count l.fn.block ++ given_in l.raw l.k;
}
