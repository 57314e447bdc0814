use Rattle.std.proofs.Common.{refl}
use Rattle.lbk_rules.proofs.NeighboursLemmas.{neighbours-told}
use Rattle.lbk_rules.proofs.neighbours.Neighbours.of_kinds.Goals as goal

pub returns-clause-are : goal.returns-clause-are
returns-clause-are g c = record { left = refl; right = refl; classes = c.classes_of_bytes-classes.ensures; rows = c.rows_of_bytes-rows.ensures }

pub returns-clause-told : goal.returns-clause-told
returns-clause-told g c = neighbours-told (g.K.KindSource.kinds_of c.args.kinds.now) _ c.requires (returns-clause-are g c)
