use Rattle.std.proofs.Common.{◌≡◌, ◌≤◌, ◌^◌, ◌++◌, drop, length, take}
use Rattle.lbk_bytes.specs.Shown.{given_in}
use Rattle.lbk_passage.specs.Cuts.{AreRising, cut_on, musts}
use Rattle.lbk_passage.proofs.segments.cut_passages.Given as goal

abbrev pub invariant-loop-k : goal.invariant-loop-k
invariant-loop-k l =
    let found = given_in l.block l.count in
    record {
      rising : AreRising l.base (2 ^ 32) (drop l.k found);
      cut : take l.k l.segments ++ cut_on l.base l.start (drop l.k found) ≡ cut_on 0 0 found;
      ends : take l.ends_count l.ends ++ musts l.k (drop l.k found) ≡ musts 0 found;
      few : l.ends_count ≤ l.k;
      long : (length l.segments ≡ 1024) × (length l.ends ≡ 1024);
    }
