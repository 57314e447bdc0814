use Rattle.std.proofs.Common.{◌++◌, ◌≤◌, ℕ, List, length}
use Rattle.lbk_rules.specs.declared.Cell.{Cell}
use Rattle.lbk_values.specs.declared.profile.Profile.{Profile}
use Rattle.lbk_bytes.specs.Blocks.{AreLeft, IsAhead, IsBlock, place_in}
use Rattle.lbk_bytes.specs.Reached.{Ahead, IsInOrder, Reached}
use Rattle.lbk_bytes.specs.Shown.{given_in}
use Rattle.lbk_bytes.proofs.blocks.finish.Given as goal

abbrev pub invariant-loop-here : goal.invariant-loop-here
invariant-loop-here g l = record {
  room : l.here.count ≤ length l.out;
  more : l.fn.start.count ≤ l.here.count;
  ahead : IsAhead l.at l.taken l.here;
  onward : l.fn.start.past ≤ l.here.past;
  in_order : (from : ℕ) → IsInOrder l.fn.out l.fn.start.count from l.fn.start.past → IsInOrder l.out l.here.count from l.here.past;
  reached : (profile : Profile) (cell : ℕ → Cell) (more : List ℕ) (all : Ahead) (begin : ℕ)
      → IsBlock profile cell l.steps (g.K.KindSource.kinds_of l.kinds) (g.K.KindSource.pairs_of l.kinds) l.text l.at begin l.taken
      → AreLeft (g.K.KindSource.pairs_of l.kinds) l.text l.at begin l.taken l.fn.start
      → Reached profile cell (l.text ++ more) all (place_in (g.K.KindSource.pairs_of l.kinds) l.text l.fn.start) (given_in l.fn.out l.fn.start.count)
      → AreLeft (g.K.KindSource.pairs_of l.kinds) l.text l.at begin l.taken l.here × Reached profile cell (l.text ++ more) all (place_in (g.K.KindSource.pairs_of l.kinds) l.text l.here) (given_in l.out l.here.count);
}

abbrev pub decreases-loop-here : goal.decreases-loop-here
decreases-loop-here g l = l.here.left
