use Rattle.std.proofs.Common.{length, refl, arith}
use Rattle.std.proofs.lemmas.Bool.{false≢true}
use Rattle.lbk_streams.proofs.TakingLemmas.{Takes-wider, TakesOf-then}
use Rattle.lbk_streams.proofs.feeding.take_piece.Goals as goal

pub loop-here-init : goal.loop-here-init
loop-here-init g c =
    let start = c.args.start in
    let piece = c.args.piece.now in
    let drain = c.drain-here in
    let taken = drain.ensures.taken in
    record {
      takes = record {
        takes = Takes-wider g.U.StreamUnit.widest start.taken (length piece) c.args.out.now start drain.new.out drain.result c.requires.2 drain.ensures.takes;
        within = (omega (arith, taken), omega (arith, taken, c.requires.2));
        feeds = λ cell more flat base all feeds. drain.ensures.feeds cell piece more flat (λ last. absurd (false≢true last)) base all feeds;
      };
      unfinished = λ free. drain.ensures.unfinished refl (omega arith);
    }

pub take_more-here-requires : goal.take_more-here-requires
take_more-here-requires g c = ((c.loop-here.invariant.unfinished (omega arith)).few, omega arith, omega arith)

pub loop-here-preserved : goal.loop-here-preserved
loop-here-preserved g c =
    let l = c.loop-here in
    let take = c.take_more-here in
    record {
      takes = TakesOf-then g.U.Unit.pieces_of g.U.StreamUnit.widest (g.K.KindSource.kinds_of c.args.table.now) (g.K.KindSource.pairs_of c.args.table.now) c.args.profile c.args.piece.now c.args.out.now c.args.start l.out l.here take.new.out take.result
          (omega arith) l.invariant.takes take.ensures.takes;
      unfinished = λ free. take.ensures.unfinished (omega arith);
    }
