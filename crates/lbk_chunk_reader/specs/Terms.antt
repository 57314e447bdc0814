-- Terms of other crates, for the laws here.
pub use Rattle.lbk_rules.specs.declared.Cell.{Cell}
pub use Rattle.lbk_values.specs.declared.profile.Profile.{Profile}
pub use Rattle.lbk_chunks.specs.declared.chunk.Chunk.{Chunk}
pub use Rattle.lbk_chunks.specs.declared.chunk.Limits.{Limits}
pub use Rattle.lbk_chunks.specs.Chunks.{AreChunks, text_start}
pub use Rattle.lbk_chunks.specs.declared.cut.Cut.{Cut}
pub use Rattle.lbk_chunks.specs.Cuts.{AreCutsPast, cuts_of}
pub use Rattle.lbk_passage.specs.Next.{IsDone}
pub use Rattle.lbk_passage.specs.Passages.{passages}
pub use Rattle.lbk_passage.specs.Pieces.{pieces_of}
pub use Rattle.lbk_streams.specs.Cuts.{EndsBefore}
pub use Rattle.lbk_words.specs.Words.{words_of}
