use Rattle.std.proofs.Common.{◌-◌, ◌%◌, ◌∙◌, arith}
use Rattle.lbk_bytes.proofs.GatherLemmas.{Gathered-decided, kinds-other}
use Rattle.lbk_bytes.proofs.target.BreakKindsTarget.put.Goals as goal

pub returns-clause-in_order : goal.returns-clause-in_order
returns-clause-in_order c = λ from to below order i past.
    kinds-other c.args.self.word c.args.kinds.now (c.args.at - c.args.self.from) (c.args.shown % 256) i (λ e. omega arith) ∙ order i (omega arith)

pub returns-clause-reached : goal.returns-clause-reached
returns-clause-reached c = λ profile cell text all last row found same inside before decided g.
    Gathered-decided profile cell text all c.args.self.from last c.args.at row c.args.count c.args.self.word c.args.shown c.args.kinds.now found
    c.requires.room.0 c.requires.room.1 inside before same c.requires.shown decided g
