use Rattle.std.proofs.Common.{◌+◌, sym, ◌∙◌}
use Rattle.lbk_chunks.proofs.BlockLemmas.{block-first, reach-le}
use Rattle.lbk_chunks.proofs.GivenLemmas.{keeps-from}
use Rattle.lbk_chunks.proofs.window.Window.first_past.Goals as goal

pub returns-then-reaches-clause-first : goal.returns-then-reaches-clause-first
returns-then-reaches-clause-first g c = λ cell cuts rising kept home.
    let k = c.first_past-k in
    let block = c.args.self.now.newer in
    let within = reach-le block.before.at block.behind.at c.args.at (sym c.reaches.ensures ∙ c.if-reaches.true) in
    block-first cell (g.K.KindSource.kinds_of c.args.table.now) (g.K.KindSource.pairs_of c.args.table.now) c.args.text.now cuts rising block k.result c.args.at kept.newer k.ensures.few within.0 k.ensures.past k.ensures.first

pub returns-then-reaches-2-clause-first : goal.returns-then-reaches-2-clause-first
returns-then-reaches-2-clause-first g c = λ cell cuts rising kept home.
    let k = c.first_past-k-then-reaches-2 in
    let block = c.args.self.now.older in
    let within = reach-le block.before.at block.behind.at c.args.at (sym c.reaches-2.ensures ∙ c.if-reaches-2.true) in
    block-first cell (g.K.KindSource.kinds_of c.args.table.now) (g.K.KindSource.pairs_of c.args.table.now) c.args.text.now cuts rising block k.result c.args.at kept.older k.ensures.few within.0 k.ensures.past k.ensures.first

pub returns-then-not-read_past-clause-first : goal.returns-then-not-read_past-clause-first
returns-then-not-read_past-clause-first g c = λ cell cuts rising kept home. c.read_past.ensures.none cell cuts rising kept home c.if-not-read_past.true

pub returns-clause-first : goal.returns-clause-first
returns-clause-first g c = λ cell cuts rising kept home.
    let k = c.first_past-k-2 in
    let read = c.read_past.ensures in
    let within = read.reaches c.if-not-read_past.false in
    block-first cell (g.K.KindSource.kinds_of c.args.table.now) (g.K.KindSource.pairs_of c.args.table.now) c.args.text.now cuts rising c.read_past.new.self.newer k.result c.args.at (read.keeps.are cell cuts rising kept).newer
    k.ensures.few within.0 k.ensures.past k.ensures.first

pub returns-clause-keeps : goal.returns-clause-keeps
returns-clause-keeps g c =
    keeps-from (g.K.KindSource.kinds_of c.args.table.now) (g.K.KindSource.pairs_of c.args.table.now) c.args.text.now c.args.self.now c.read_past.new.self (c.first_past-k-2.result + 1) c.read_past.ensures.keeps
