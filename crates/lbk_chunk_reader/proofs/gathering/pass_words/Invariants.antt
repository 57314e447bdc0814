use Rattle.std.proofs.Common.{ℕ, ◌+◌, ◌^◌, ◌<◌, length}
use Rattle.lbk_chunk_reader.specs.PassageWords.{words_in_pieces}
use Rattle.lbk_chunk_reader.specs.Pieces.{AreJoined, ArePassed}
use Rattle.lbk_chunk_reader.proofs.gathering.pass_words.Given as goal

abbrev pub invariant-loop-piece : goal.invariant-loop-piece
invariant-loop-piece l = (start from : ℕ) → AreJoined from l.fn.pieces
    → l.fn.count + length (words_in_pieces start l.fn.pieces) < 2 ^ 64
    → ArePassed start (start + l.end) l.fn.count l.fn.pieces l.count l.left

abbrev pub decreases-loop-piece : goal.decreases-loop-piece
decreases-loop-piece l = length l.left
