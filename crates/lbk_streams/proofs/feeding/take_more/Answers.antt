use Rattle.std.proofs.Common.{suc, ◌∷◌, add-one, drop, drop-cons, sym, ap, ◌∙◌, refl, arith}
use Rattle.std.proofs.lemmas.Bool.{false≢true}
use Rattle.lbk_bytes.specs.Shown.{given_in}
use Rattle.lbk_streams.proofs.FeedLemmas.{Feeds-unit}
use Rattle.lbk_streams.proofs.feeding.take_more.Goals as goal

pub returns : goal.returns
returns g c =
    let here = c.args.here in
    let piece = c.args.piece.now in
    let cut = c.with_unit-cut in
    let is = c.index-piece-here.is in
    let size = cut.ensures.size in
    let drain = c.drain.ensures in
    let taken = drain.taken in
    let takes = drain.takes in
    record {
      takes = record {
        takes = record {
          cut = takes.cut;
          room = takes.room;
          breaks = takes.breaks;
          counted = omega (arith, takes.counted, size);
          ordered = λ base from fits o.
              let seen = o.seen in
              takes.ordered base from (omega arith) (record { seen = omega (arith, size); placed = o.placed });
        };
        within = (omega (arith, taken), omega (arith, taken));
        feeds = λ cell more flat base all feeds.
            drain.feeds cell piece more flat (λ last. absurd (false≢true last)) base all
            (Feeds-unit g.U.Unit.pieces_of c.args.profile cell base piece more here cut.result _ all (given_in c.args.out.now here.count)
            (drop-cons piece here.taken c.index-piece-here.result (omega arith)
            ∙ ap (λ (u : g.row.U.Denot). u ∷ drop (suc here.taken) piece) (sym is)
            ∙ ap (λ n. c.index-piece-here.result ∷ drop n piece) (sym (add-one here.taken))) cut.ensures.units size feeds);
      };
      onward = omega (arith, taken);
      unfinished = drain.unfinished refl;
    }
