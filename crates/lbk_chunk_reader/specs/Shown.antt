-- What a chunker shows, by the cells of its source.
use Rattle.std.specs.Prelude.{ℕ, Bool}
use Rattle.lbk_rules.specs.declared.Cell.{Cell}
use Rattle.lbk_passage.specs.Shown.{state_of}
use Rattle.lbk_chunk_reader.specs.declared.chunker.Chunker.{Chunker}
use Rattle.lbk_chunk_reader.specs.Reader.{View}
use Rattle.lbk_chunk_reader.specs.Standing.{view_with}

abbrev pub view_of : {C : Type 0} {bound : _} → (C → ℕ → Cell) → Chunker C bound → View
view_of cell c = view_with c.window (state_of cell c.segmenter)

-- a call failed
abbrev pub is_spent : {C : Type 0} {bound : _} → Chunker C bound → Bool
is_spent c = c.is_spent
