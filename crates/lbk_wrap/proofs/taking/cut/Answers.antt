use Rattle.std.proofs.Common.{◌+◌, ap, refl}
use Rattle.lbk_wrap.proofs.Clusters.{size-graphemes}
use Rattle.lbk_wrap.proofs.taking.cut.Goals as goal

pub loop-cluster-init : goal.loop-cluster-init
loop-cluster-init c =
    rw (c.into_iter-cluster-iterator.ensures.into_iter_gives, c.graphemes-cluster-items.ensures.left)
    (record { all = refl; small = c.requires.small; next = ap (λ n. c.args.line.next + n) (size-graphemes c.args.part.now c.utf8.part) })
