use Rattle.std.proofs.Common.{◌≡◌, ◌⊎◌, ◌-◌, ◌<◌, ◌≤◌, slice_index_or}
use Rattle.lbk_chunks.specs.Coming.{no_cut}
use Rattle.lbk_chunks.proofs.cut_block.CutBlock.first_past.Given as goal

abbrev pub invariant-loop-k : goal.invariant-loop-k
invariant-loop-k l = record {
  few : l.k < l.self.count;
  first : (l.k ≡ 0) ⊎ ((slice_index_or l.self.cuts (l.k - 1) no_cut).at ≤ l.at);
}

abbrev pub decreases-loop-k : goal.decreases-loop-k
decreases-loop-k l = l.self.count - l.k
