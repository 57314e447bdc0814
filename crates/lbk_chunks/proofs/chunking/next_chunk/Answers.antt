use Rattle.std.proofs.Common.{ap, not, refl, arith}
use Rattle.lbk_chunks.proofs.GivenLemmas.{chunk-same, keeps-more, knows-still}
use Rattle.lbk_chunks.proofs.chunking.next_chunk.Goals as goal

pub returns-clause-given : goal.returns-clause-given
returns-clause-given g c = λ cell cuts knows.
    let e = c.in-Some.ensures in
    let end = e.end cell cuts knows in
    let on = knows-still cell (g.K.KindSource.kinds_of c.args.table.now) (g.K.KindSource.pairs_of c.args.table.now) c.args.text.now cuts c.args.window.now c.chunk_end.new.window c.args.here.now e.keeps knows in
    let next = c.next_start.ensures.next cell cuts on (e.within knows.kept.within).0 end.1 in
    record {
      end = c.in-Some.end;
      ends = end.0;
      chunk = chunk-same c.args.limits.now c.args.here.now c.in-Some.end c.saturating_sub.result _ (omega (arith, c.saturating_sub.ensures)) (ap not (c.fits.ensures c.in-Some.end refl refl));
      next = next.0;
      stands = next.1;
    }

pub returns-clause-keeps : goal.returns-clause-keeps
returns-clause-keeps g c =
    keeps-more (g.K.KindSource.kinds_of c.args.table.now) (g.K.KindSource.pairs_of c.args.table.now) c.args.text.now c.args.window.now c.chunk_end.new.window c.next_start.new.window c.in-Some.ensures.keeps c.next_start.ensures.keeps

pub returns-clause-onward : goal.returns-clause-onward
returns-clause-onward g c = λ kept told. c.next_start.ensures.onward (omega (arith, told, (c.in-Some.ensures.within kept).0))
