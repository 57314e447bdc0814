use Rattle.std.proofs.Common.{◌++◌, ◌∷◌, [], length, take, arith, refl, subst, sym}
use Rattle.std.proofs.lemmas.List.{take_more_set}
use Rattle.std.proofs.Math.ListN.{length-set}
use Rattle.lbk_chunks.specs.declared.chunk.Chunk.{Chunk}
use Rattle.lbk_chunks.specs.Chunks.{AreTold}
use Rattle.lbk_chunks.proofs.GivenLemmas.{give-more, give-none, keeps-behind, knows-on, knows-still, none-more, told-more}
use Rattle.lbk_chunks.proofs.chunking.give_chunks.Goals as goal

pub loop-count-init : goal.loop-count-init
loop-count-init g c = record {
  kept = λ kept. kept;
  room = omega arith;
  told = λ kept. refl;
  order = c.requires;
  given = λ cell cuts to_come knows are. give-none cell (g.K.KindSource.kinds_of c.args.table.now) (g.K.KindSource.pairs_of c.args.table.now) c.args.text.now c.args.limits.now cuts to_come c.args.out.now c.args.window.now c.args.here.now knows are;
}

pub loop-count-preserved : goal.loop-count-preserved
loop-count-preserved g c =
    let count = c.loop-count.count in
    let i = c.loop-count.invariant in
    let given = c.in-Some.given in
    let next = c.in-Some.ensures in
    let places = next.places in
    let text = c.args.text.now in
    let more = take_more_set c.loop-count.out count given.chunk c.loop-count-test.true in
    record {
      kept = λ kept. c.settle.ensures.kept text (next.keeps.kept (i.kept kept));
      room = omega (arith, length-set {A = Chunk}, c.loop-count-test.true);
      told = λ kept. (
          let within = next.within (i.kept kept) in
          subst (AreTold c.args.here.now.told given.next.told (length text)) (sym more)
          (subst (λ n. AreTold c.args.here.now.told n (length text) (take count c.loop-count.out ++ given.chunk ∷ [])) (sym places.1)
          (told-more c.args.here.now.told c.loop-count.here.told (length text) (take count c.loop-count.out) given.chunk (i.told kept)
          (omega (arith, places.0, i.order)) within.0 within.1)));
      order = places.2;
      given = λ cell cuts to_come knows are. (
          let were = i.given cell cuts to_come knows are in
          let k = were.knows in
          let now = next.given cell cuts k in
          let onward = next.onward k.kept.within i.order in
          let on = knows-on cell (g.K.KindSource.kinds_of c.args.table.now) (g.K.KindSource.pairs_of c.args.table.now) text cuts c.loop-count.window c.settle.new.self c.loop-count.here given.next k
          (c.settle.ensures.are cell (g.K.KindSource.kinds_of c.args.table.now) (g.K.KindSource.pairs_of c.args.table.now) text cuts (next.keeps.are cell cuts k.rising k.kept))
          (c.settle.ensures.home (keeps-behind (g.K.KindSource.kinds_of c.args.table.now) (g.K.KindSource.pairs_of c.args.table.now) text c.loop-count.window c.next_chunk.new.window given.next.start next.keeps (omega (arith, k.home, onward)))) places.2 in
          give-more cell (g.K.KindSource.kinds_of c.args.table.now) (g.K.KindSource.pairs_of c.args.table.now) text c.args.limits.now cuts to_come count c.loop-count.out _ c.loop-count.window c.settle.new.self c.loop-count.here given were now more on);
    }

pub returns-in_default-clause-given : goal.returns-in_default-clause-given
returns-in_default-clause-given g c = λ cell cuts to_come knows are.
    let i = c.loop-count.invariant in
    let were = i.given cell cuts to_come knows are in
    let k = were.knows in
    let next = c.in_default.ensures in
    let none = none-more cell (g.K.KindSource.kinds_of c.args.table.now) (g.K.KindSource.pairs_of c.args.table.now) c.args.text.now c.args.limits.now cuts to_come c.loop-count.count c.loop-count.out c.loop-count.window c.loop-count.here were
    (next.given cell cuts k) in (
      record {
        few = were.few;
        front = were.front;
        rest = were.rest;
        knows = knows-still cell (g.K.KindSource.kinds_of c.args.table.now) (g.K.KindSource.pairs_of c.args.table.now) c.args.text.now cuts c.loop-count.window c.next_chunk.new.window c.loop-count.here next.keeps k;
        stands = were.stands;
      },
      omega (arith, none, i.room, c.loop-count.auto.out),
    )

pub returns-clause-given : goal.returns-clause-given
returns-clause-given g c = λ cell cuts to_come knows are.
    let i = c.loop-count.invariant in
    let were = i.given cell cuts to_come knows are in
    (were, omega (arith, were.few, i.room, c.loop-count.auto.out, c.loop-count-test.false))
