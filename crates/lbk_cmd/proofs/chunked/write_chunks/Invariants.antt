use Rattle.std.proofs.Common.{◌≡◌, ℕ, ◌≤◌, List, length}
use Rattle.lbk_chunks.specs.Chunks.{cuts_past}
use Rattle.lbk_chunks.specs.Cuts.{AreCutsPast}
use Rattle.lbk_chunk_reader.specs.Window.{cuts_in, here_in}
use Rattle.lbk_cmd.specs.Chunk.{wanted_of}
use Rattle.lbk_cmd.specs.Chunking.{Gave, StandsIn}
use Rattle.lbk_cmd.specs.Waiting.{waiting_in}
use Rattle.lbk_cmd.proofs.chunked.write_chunks.Given as goal

abbrev pub invariant-loop-chunk : goal.invariant-loop-chunk
invariant-loop-chunk g l = record {
  gave : (text : List ℕ) → StandsIn (wanted_of l.fn.asked) text l.fn.window → Gave (wanted_of l.fn.asked) text l.fn.is_whole l.fn.window l.window (g.W.Sink.written l.fn.writer) (g.W.Sink.written l.writer) (waiting_in l.fn.waiting) (waiting_in l.waiting);
  rising : AreCutsPast (here_in l.window).start (cuts_in l.window);
  told : (here_in l.window).start ≤ (here_in l.window).told;
  failures : g.W.Sink.failure_count l.writer ≡ g.W.Sink.failure_count l.fn.writer;
}

abbrev pub decreases-loop-chunk : goal.decreases-loop-chunk
decreases-loop-chunk g l = length (cuts_past (here_in l.window).told (cuts_in l.window))
