use Rattle.std.proofs.Common.{◌≡◌, ℕ, ◌+◌, ◌^◌, ◌<◌, length}
use Rattle.lbk_chunk_reader.specs.PassageWords.{words_in_pieces}
use Rattle.lbk_chunk_reader.proofs.gathering.words_behind.Given as goal

abbrev pub invariant-loop-piece : goal.invariant-loop-piece
invariant-loop-piece l = (start : ℕ) → l.fn.count + length (words_in_pieces start l.fn.pieces) < 2 ^ 64
    → l.count + length (words_in_pieces start l.left) ≡ l.fn.count + length (words_in_pieces start l.fn.pieces)

abbrev pub decreases-loop-piece : goal.decreases-loop-piece
decreases-loop-piece l = length l.left
