use Rattle.std.proofs.Common.{◌≡◌, ◌++◌, ℕ, List, length}
use Rattle.json.specs.Print.{escape}
use Rattle.lbk_cmd.specs.Chunking.{Passes}
use Rattle.lbk_cmd.specs.Waiting.{waiting_in}
use Rattle.lbk_cmd.proofs.waiting.Waiting.push_escaped.Given as goal

abbrev pub invariant-loop-byte : goal.invariant-loop-byte
invariant-loop-byte g l = record {
  so_far : (line : List ℕ) × (line ++ escape l.left ≡ escape l.fn.text)
      × Passes (g.W.Sink.written l.fn.writer) (g.W.Sink.written l.writer) (waiting_in l.fn.self) (waiting_in l.self) line;
  failures : g.W.Sink.failure_count l.writer ≡ g.W.Sink.failure_count l.fn.writer;
}

abbrev pub decreases-loop-byte : goal.decreases-loop-byte
decreases-loop-byte g l = length l.left
