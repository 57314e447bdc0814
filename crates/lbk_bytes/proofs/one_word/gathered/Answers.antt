use Rattle.std.proofs.Common.{arith}
use Rattle.lbk_bytes.proofs.GatherLemmas.{gathered-all, gathered-further, gathered-none}
use Rattle.lbk_bytes.proofs.one_word.gathered.Goals as goal

pub loop-here-init : goal.loop-here-init
loop-here-init g c =
    let a = c.args in
    gathered-none (g.K.KindSource.kinds_of a.table.now) (g.K.KindSource.pairs_of a.table.now) a.profile a.text.now a.from a.stop a.start.word a.start.here c.requires.0 c.requires.2 c.requires.3

pub loop-here-preserved : goal.loop-here-preserved
loop-here-preserved g c =
    let a = c.args in
    let l = c.loop-here in
    gathered-further (g.K.KindSource.kinds_of a.table.now) (g.K.KindSource.pairs_of a.table.now) a.profile a.text.now a.from a.stop a.start.word a.start.here l.here c.gather_further-here.result l.kinds c.gather_further-here.new.kinds (omega arith)
    l.invariant c.gather_further-here.ensures

pub returns-clause-further : goal.returns-clause-further
returns-clause-further g c =
    let a = c.args in
    let l = c.loop-here in
    gathered-all (g.K.KindSource.kinds_of a.table.now) (g.K.KindSource.pairs_of a.table.now) a.profile a.text.now a.from a.stop a.start.word a.start.here l.here l.kinds c.nonzero.result l.invariant c.requires.2 (omega arith) c.nonzero.ensures
