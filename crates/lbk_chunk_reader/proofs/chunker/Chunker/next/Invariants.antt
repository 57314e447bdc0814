use Rattle.std.proofs.Common.{◌≡◌, ◌+◌, ◌-◌, ◌⊎◌, false, cond, []}
use Rattle.lbk_feed.specs.Text.{longest_text}
use Rattle.lbk_chunks.specs.Chunks.{cuts_past}
use Rattle.lbk_passage.specs.Next.{IsDone}
use Rattle.lbk_passage.specs.Shown.{state_of}
use Rattle.lbk_chunk_reader.specs.Reader.{Goes, IsOver, ReadsEach}
use Rattle.lbk_chunk_reader.specs.Settled.{IsUnsettled}
use Rattle.lbk_chunk_reader.specs.Shown.{view_of}
use Rattle.lbk_chunk_reader.specs.Window.{cuts_in, here_in}
use Rattle.lbk_chunk_reader.proofs.chunker.Chunker.next.Given as goal

abbrev pub invariant-loop-chunk : goal.invariant-loop-chunk
invariant-loop-chunk g l = record {
  goes : Goes (view_of g.C.CellSource.cell_of l.fn.self) (view_of g.C.CellSource.cell_of l.self) false
      (g.R.Source.unread l.fn.reader) (g.R.Source.unread l.reader) [];
  unspent : l.self.is_spent ≡ false;
  failures : g.R.Source.failure_count l.reader ≡ g.R.Source.failure_count l.fn.reader;
  reads : ReadsEach (view_of g.C.CellSource.cell_of l.fn.self).passages (view_of g.C.CellSource.cell_of l.self).passages
      false (g.R.Source.reads_made l.fn.reader).count (g.R.Source.reads_made l.reader).count;
  due : ((l.self ≡ l.fn.self) × (l.reader ≡ l.fn.reader)) ⊎ IsUnsettled (view_of g.C.CellSource.cell_of l.fn.self);
  over : IsOver (view_of g.C.CellSource.cell_of l.fn.self)
      → IsDone (view_of g.C.CellSource.cell_of l.self).passages
      × (cuts_past (here_in l.self.window).told (cuts_in l.self.window) ≡ []) × (l.reader ≡ l.fn.reader);
}

abbrev pub decreases-loop-chunk : goal.decreases-loop-chunk
decreases-loop-chunk g l = cond l.self.is_whole 0 1
    + (longest_text + 1 - (state_of g.C.CellSource.cell_of l.self.segmenter).start)
