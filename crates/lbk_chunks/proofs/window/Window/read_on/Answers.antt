use Rattle.std.proofs.Common.{refl}
use Rattle.lbk_chunks.proofs.GivenLemmas.{keeps-read}
use Rattle.lbk_chunks.proofs.window.Window.read_on.Goals as goal

pub returns-clause-keeps : goal.returns-clause-keeps
returns-clause-keeps g c =
    keeps-read (g.K.KindSource.kinds_of c.args.table.now) (g.K.KindSource.pairs_of c.args.table.now) c.args.text.now c.args.self.now _ refl (λ kept. kept.newer) c.read.ensures.within
    (λ cell cuts rising are. let read = c.read.ensures.block cell cuts rising are.words (are.newer.behind c.requires) in (are.newer, read.0, read.1))
