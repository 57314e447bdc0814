-- Cuts and chunks in the form of the definition of chunks: kinds and rules are numbers.
use Rattle.lbk_rules.specs.Codes.{kind_number, rule_number}
use Rattle.lbk_chunks.specs.declared.chunk.Chunk as spec
use Rattle.lbk_chunks.specs.declared.cut.Cut as spec_cut
use Rattle.lbk_chunk_reader.specs.declared.cut.Chunk.{Chunk}
use Rattle.lbk_chunk_reader.specs.declared.cut.Cut.{Cut}

abbrev pub numbered : Cut → spec_cut.Cut
numbered c = record { at = c.at; words = c.words; kind = kind_number c.kind; rule = rule_number c.rule }

abbrev pub numbered_chunk : Chunk → spec.Chunk
numbered_chunk c = record {
  start = c.start;
  end = c.end;
  words = c.words;
  kind = kind_number c.kind;
  rule = rule_number c.rule;
  alone = c.alone;
}
