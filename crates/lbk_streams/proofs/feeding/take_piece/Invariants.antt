use Rattle.std.proofs.Common.{◌-◌, ◌<◌, length}
use Rattle.lbk_streams.specs.Taking.{IsOpen, TakesOf}
use Rattle.lbk_streams.proofs.feeding.take_piece.Given as goal

abbrev pub invariant-loop-here : goal.invariant-loop-here
invariant-loop-here g l =
    let of = g.U.StreamUnit in
    record {
      takes : TakesOf g.U.Unit.pieces_of of.widest (g.K.KindSource.kinds_of l.fn.table) (g.K.KindSource.pairs_of l.fn.table) l.fn.profile l.piece l.fn.out l.fn.start l.out l.here;
      unfinished : l.here.count < length l.out → IsOpen of.could_go_on of.widest l.here.cut;
    }

abbrev pub decreases-loop-here : goal.decreases-loop-here
decreases-loop-here g l = length l.piece - l.here.taken
