use Rattle.std.proofs.Common.{◌≡◌, ◌+◌, ◌-◌, ◌%◌, ◌^◌, refl, sym, subst, arith}
use Rattle.lbk_streams.specs.declared.stream.StreamPosition.{StreamPosition}
use Rattle.lbk_bytes.specs.Order.{AreInOrder}
use Rattle.lbk_bytes.specs.Shown.{given_in}
use Rattle.lbk_streams.proofs.BreakLemmas.{AreBreaks-behind}
use Rattle.lbk_streams.proofs.FeedLemmas.{given-behind}
use Rattle.lbk_streams.proofs.PlaceLemmas.{AreInOrder-behind, IsInOrder-at, IsPlaced-free}
use Rattle.lbk_streams.proofs.SkimLemmas.{Feeds-skim}
use Rattle.lbk_streams.proofs.skimming.skim.Goals as goal

pub returns-clause-takes : goal.returns-clause-takes
returns-clause-takes g c =
    let here = c.args.here in
    let end = c.skim_into-end in
    let within = end.ensures.within in
    let next : StreamPosition = record {
      at = (here.place.at + (end.result.at - here.taken)) % 2 ^ 64;
      held_at = here.place.held_at;
      row = end.result.row;
      held_code = here.place.held_code;
    } in
    let none = c.requires.0 in
    record {
      takes = record {
        cut = omega (arith, none);
        room = omega (arith, within.0);
        breaks = λ all.
            AreBreaks-behind c.args.out.now end.new.room _ here.count end.result.count c.requires.2 (omega (arith, within.0)) all end.ensures.breaks;
        counted = omega (arith, end.ensures.few, within.2);
        ordered = λ base from fits o.
            let seen = o.seen in
            let at : here.place.at ≡ base + here.taken = omega arith in
            let there : next.at ≡ here.place.at + (end.result.at - here.taken) = omega (arith, within.2, within.3) in
            let start = IsInOrder-at c.args.out.now here.count from here.place o.placed in
            let more = subst (λ n. AreInOrder end.new.room end.result.count here.place.at n) (sym there)
            (end.ensures.in_order (omega arith) (omega (arith, within.2, within.3))) in
            record {
              seen = omega (arith, within.2);
              placed = IsPlaced-free _ (here.count + end.result.count) from next.at next c.requires.1 (omega arith) (
                omega (arith, start.0),
                AreInOrder-behind c.args.out.now end.new.room _ here.count end.result.count c.requires.2 (omega (arith, within.0)) from here.place.at next.at start.0 (omega arith) start.1 more,
              );
            };
      };
      within = (within.2, within.3);
      feeds = λ cell more flat base all feeds.
          Feeds-skim g.U.Unit.pieces_of c.args.profile cell base c.args.piece.now more here next end.result (here.count + end.result.count) all
          (given_in c.args.out.now here.count) (given_in end.new.room end.result.count) _ none within.2 within.3 refl
          (λ coming at behind fits stands. end.ensures.stands cell more coming next flat c.requires.1 c.requires.3 behind at refl c.requires.1 fits stands)
          (given-behind c.args.out.now end.new.room _ here.count end.result.count c.requires.2 (omega (arith, within.0)))
          feeds;
    }
