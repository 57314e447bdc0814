use Rattle.std.proofs.Common.{subst, sym, ◌∙◌}
use Rattle.lbk_passage.specs.Cuts.{AreRising}
use Rattle.lbk_passage.proofs.AheadLemmas.{IsAhead-found, first-given}
use Rattle.lbk_passage.proofs.CutLemmas.{rising-breaks}
use Rattle.lbk_passage.proofs.FoundLemmas.{IsFound-start}
use Rattle.lbk_passage.proofs.ahead.Ahead.find.Goals as goal

pub find-found-requires : goal.find-found-requires
find-found-requires g c = IsFound-start c.args.profile (g.C.CellSource.cell_of c.args.cells.now) c.args.ready.now c.utf8.ready

pub cut_passages-self-requires-clause-rising : goal.cut_passages-self-requires-clause-rising
cut_passages-self-requires-clause-rising g c =
    subst (AreRising 0 4294967296) (sym (first-given c.find-found.ensures))
    (rising-breaks 4294967296 c.find-found.result.state.count c.args.profile (g.C.CellSource.cell_of c.args.cells.now) c.args.ready.now c.utf8.ready c.requires.1)

pub returns : goal.returns
returns g c =
    let cut = c.cut_passages-self in
    let whole = c.requires.0 in
    IsAhead-found c.find-found.ensures whole.0 cut.new.segments cut.new.ends cut.result
    (c.find-found.auto.out ∙ whole.0, cut.ensures.long.0, cut.ensures.long.1) cut.ensures.cut cut.ensures.ends cut.ensures.few
