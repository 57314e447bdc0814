use Rattle.std.proofs.Common.{◌≤◌, length, vec_len}
use Rattle.lbk_chunk_reader.specs.Pieces.{IsRegular}
use Rattle.lbk_chunk_reader.proofs.WordLemmas.{ArePushed}
use Rattle.lbk_chunk_reader.proofs.gathering.push_cuts.Given as goal

abbrev pub invariant-loop-segment : goal.invariant-loop-segment
invariant-loop-segment l = record {
  pushed : IsRegular l.start l.fn.words l.fn.segments l.fn.pieces
      → ArePushed l.start l.fn.words l.fn.segments l.fn.pieces l.fn.cuts.items l.cuts.items l.here.count l.here.left.now
      l.left;
  grows : vec_len l.fn.cuts ≤ vec_len l.cuts;
}

abbrev pub decreases-loop-segment : goal.decreases-loop-segment
decreases-loop-segment l = length l.left
