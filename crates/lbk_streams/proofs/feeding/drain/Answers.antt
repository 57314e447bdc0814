use Rattle.std.proofs.Common.{◌≡◌, ◌<◌, ◌≤◌, ◌++◌, false, true, drop, length, ap, ◌∙◌, ⊎_elim, inl, inr, arith}
use Rattle.std.proofs.lemmas.Bool.{cases_lt}
use Rattle.lbk_streams.specs.declared.stream.Feeding.{Feeding}
use Rattle.lbk_streams.specs.Stands.{front_of}
use Rattle.lbk_streams.proofs.TakingLemmas.{Takes-then, Takes-wider}
use Rattle.lbk_streams.proofs.feeding.drain.Goals as goal

pub loop-here-preserved : goal.loop-here-preserved
loop-here-preserved g c =
    let so_far = c.loop-here.invariant in
    let start = c.args.start in
    let here = c.loop-here.here in
    let room = length c.args.out.now in
    let take = c.take_cut-here in
    let of = g.U.StreamUnit in
    let below : start.count < room =
    ⊎_elim (λ (less : start.count < room). less)
    (λ (full : room ≤ start.count).
    let stays = ap (λ (h : Feeding g.row.U.Denot). h.count) (so_far.full (omega (arith, c.requires.1))).0 in absurd (omega arith))
    (cases_lt start.count room) in
    record {
      takes = Takes-then of.widest start.taken c.args.out.now start c.loop-here.out here take.new.out take.result (omega arith) so_far.takes
          (Takes-wider of.widest here.taken start.taken c.loop-here.out here take.new.out take.result (omega (arith, so_far.taken)) take.ensures.takes);
      taken = take.ensures.taken ∙ so_far.taken;
      full = λ full. absurd (omega arith);
      feeds = λ cell piece more flat ends base all feeds.
          take.ensures.feeds cell piece more flat
          (⊎_elim (λ (closed : of.could_go_on (front_of here.cut) ≡ false). inl closed)
          (λ (is : c.args.last ≡ true). inr (ap (λ n. drop n piece ++ more) so_far.taken ∙ ends is below))
          (c.is_whole.ensures.whole c.if-is_whole.true).1)
          base all (so_far.feeds cell piece more flat ends base all feeds);
    }
