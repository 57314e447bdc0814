use Rattle.lbk_passage.specs.Shown.{state_of}
use Rattle.lbk_chunk_reader.proofs.ReaderLemmas.{view-new}
use Rattle.lbk_chunk_reader.proofs.chunker.Chunker.new.Goals as goal

pub returns-in-Ok-clause-view : goal.returns-in-Ok-clause-view
returns-in-Ok-clause-view g c =
    view-new c.args.limits c.new-window.result (state_of g.C.CellSource.cell_of c.in-Ok.segmenter)
    (g.C.CellSource.cell_of c.args.cells.now) c.args.profile c.args.limit
    c.new-window.ensures.new c.in-Ok.ensures.state
