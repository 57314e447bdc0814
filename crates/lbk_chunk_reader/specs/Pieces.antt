-- Adjacent pieces.
use Rattle.std.specs.Prelude.{◌≡◌, ℕ, ◌+◌, ◌^◌, ◌<◌, ◌≤◌, List, [], ◌∷◌, length, map}
use Rattle.lbk_rules.specs.declared.Break.{Break}
use Rattle.lbk_passage.specs.Laws.{break_at}
use Rattle.lbk_passage.specs.declared.passage.Piece.{Piece}
use Rattle.lbk_passage.specs.declared.passage.Segment.{Segment}
use Rattle.lbk_chunks.specs.Coming.{AreBreaksPast}
use Rattle.lbk_chunks.specs.Cuts.{cuts_among}
use Rattle.lbk_chunk_reader.specs.PassageWords.{words_in_pieces}

-- each begins where the one before it ends, the first at this byte
abbrev pub AreJoined : ℕ → List Piece → Type 0
AreJoined at [] = Unit {0}
AreJoined at (p ∷ ps) = (p.start ≡ at) × (at ≤ p.end) × AreJoined p.end ps

-- the first of them, in a passage that begins at byte `start`, ends past a byte
abbrev pub EndsPast : ℕ → ℕ → List Piece → Type 0
EndsPast start at [] = Unit {0}
EndsPast start at (p ∷ ps) = at < start + p.end

-- the pieces that end at a byte or before it were passed, and their words counted
pub record ArePassed (start at count : ℕ) (pieces : List Piece) (counted : ℕ) (left : List Piece) : Type 0 where
  pub from : ℕ
  pub joined : AreJoined from left
  pub same : counted + length (words_in_pieces start left) ≡ count + length (words_in_pieces start pieces)
  pub cuts : (b : Break) (bs : List Break) → at ≤ b.at → AreBreaksPast b.at bs
      → cuts_among counted (words_in_pieces start left) (b ∷ bs) ≡ cuts_among count (words_in_pieces start pieces)
      (b ∷ bs)

-- what a passage with these segments and pieces has, if it begins at byte `start`, after so many words
pub record IsRegular (start words : ℕ) (segments : List Segment) (pieces : List Piece) : Type 0 where
  pub few : words + length (words_in_pieces start pieces) < 2 ^ 64
  pub joined : AreJoined 0 pieces
  pub rising : AreBreaksPast start (map (break_at start) segments)
