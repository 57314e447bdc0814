use Rattle.std.proofs.Common.{◌-◌, ◌+◌, ◌≡◌, ◌≤◌, slice_index_or, inr, arith, subst}
use Rattle.lbk_chunks.specs.Coming.{no_cut}
use Rattle.lbk_chunks.proofs.BlockLemmas.{goes-on, reach-some}
use Rattle.lbk_chunks.proofs.cut_block.CutBlock.first_past.Goals as goal

pub begin-k-requires : goal.begin-k-requires
begin-k-requires c = reach-some c.args.self.now c.args.at c.requires.0 c.requires.1

pub loop-k-preserved : goal.loop-k-preserved
loop-k-preserved c =
    let k = c.loop-k.k in
    record {
      few = goes-on c.args.self.now k c.args.at c.requires.1 c.loop-k.invariant.few c.loop-k-test.true;
      first = inr (subst (λ n. (slice_index_or c.args.self.now.cuts n no_cut).at ≤ c.args.at) (let e : k ≡ k + 1 - 1 = omega arith in e) c.loop-k-test.true);
    }
