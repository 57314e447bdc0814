use Rattle.lbk_chunks.proofs.LawLemmas.{chunks-exist, chunks-full, chunks-joined, chunks-start-past, chunks-whole, chunks-within}
use Rattle.lbk_chunks.proofs.TextLemmas.{text-rising}
use Rattle.lbk_chunks.proofs.laws.chunks_of_cuts.Goals as goal

pub returns : goal.returns
returns c = record {
  rising = text-rising;
  exist = chunks-exist;
  whole = chunks-whole;
  within = chunks-within;
  joined = chunks-joined;
  starts = chunks-start-past;
  full = chunks-full;
}
