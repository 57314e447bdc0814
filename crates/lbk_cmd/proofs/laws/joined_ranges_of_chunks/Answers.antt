use Rattle.lbk_cmd.proofs.ChunkRanges.{chunks-by-ranges}
use Rattle.lbk_cmd.proofs.laws.joined_ranges_of_chunks.Goals as goal

pub returns : goal.returns
returns c wanted limits cell passages chunks tos are ranges short = chunks-by-ranges wanted limits cell passages chunks tos are ranges short
