use Rattle.std.proofs.Common.{sym, arith}
use Rattle.lbk_rules.proofs.NeighboursLemmas.{class-few, class-past}
use Rattle.lbk_rules.proofs.neighbours.class_of_kind.Goals as goal

pub returns-then-kind-ge-KINDS-clause-class : goal.returns-then-kind-ge-KINDS-clause-class
returns-then-kind-ge-KINDS-clause-class c = sym (class-past c.args.kind (omega arith))

pub returns-clause-few : goal.returns-clause-few
returns-clause-few c = class-few c.args.kind (omega arith)
