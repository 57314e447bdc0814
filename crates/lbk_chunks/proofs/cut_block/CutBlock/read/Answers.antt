use Rattle.std.proofs.Common.{refl}
use Rattle.lbk_chunks.specs.Chunks.{cuts_past}
use Rattle.lbk_chunks.proofs.BlockLemmas.{block-read}
use Rattle.lbk_chunks.proofs.cut_block.CutBlock.read.Goals as goal

pub returns-clause-block : goal.returns-clause-block
returns-clause-block g c = λ cell cuts rising read is.
    let f = c.fill_cuts-filled in
    let first = f.ensures.first cell (cuts_past c.args.mark.at cuts) read is.ahead in
    (block-read cell (g.K.KindSource.kinds_of c.args.table.now) (g.K.KindSource.pairs_of c.args.table.now) c.args.text.now cuts rising _ f.result is first.0 refl refl f.ensures.counted, first.1)
