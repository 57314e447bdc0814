-- The sample files, each by the constant with its bytes.
use Rattle.std.specs.Prelude.{◌≡◌}
use Rattle.lbk_ucd.specs.declared.samples.TheConstants.{SAMPLE_LINE_BREAK, SAMPLE_EAST_ASIAN, SAMPLE_CATEGORY}
use Rattle.lbk_ucd.specs.declared.samples.TheConstants.{SAMPLE_EMOJI}
use Rattle.lbk_ucd.specs.declared.tables.Files.{Files}

-- these are the bytes of the sample files
pub record AreSamples (files : Files) : Type 0 where
  pub line_break : files.line_break.now ≡ SAMPLE_LINE_BREAK.now
  pub east_asian : files.east_asian.now ≡ SAMPLE_EAST_ASIAN.now
  pub category : files.category.now ≡ SAMPLE_CATEGORY.now
  pub emoji : files.emoji.now ≡ SAMPLE_EMOJI.now
