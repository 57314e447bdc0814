use Rattle.std.proofs.Common.{◌≡◌, ◌+◌, ◌-◌}
use Rattle.lbk_feed.specs.Text.{longest_text}
use Rattle.lbk_rules.specs.CellPages.{page_cell}
use Rattle.lbk_passage.specs.Shown.{state_of}
use Rattle.lbk_cmd.specs.Engines.{showing}
use Rattle.lbk_cmd.proofs.Owning.{Owning}
use Rattle.lbk_cmd.proofs.passages.own_passages.Given as goal

abbrev pub invariant-loop-segmenter : goal.invariant-loop-segmenter
invariant-loop-segmenter g l = record {
  owning : Owning (showing (page_cell l.cells) l.fn.profile l.fn.limit) (g.R.Source.unread l.fn.reader) (g.R.Source.reads_made l.fn.reader)
      (state_of page_cell l.segmenter) (g.R.Source.unread l.reader) (g.R.Source.has_ended l.reader) (g.R.Source.reads_made l.reader)
      l.passages.items;
  read_failures : g.R.Source.failure_count l.reader ≡ g.R.Source.failure_count l.fn.reader;
}

abbrev pub decreases-loop-segmenter : goal.decreases-loop-segmenter
decreases-loop-segmenter g l = longest_text + 1 - (state_of page_cell l.segmenter).start
