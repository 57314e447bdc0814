use Rattle.std.proofs.Common.{refl}
use Rattle.std.proofs.lemmas.Result.{err_from_is_err_and}
use Rattle.lbk_feed.proofs.pieces.Feed.piece.Goals as goal

pub returns-in_err-settle : goal.returns-in_err-settle
returns-in_err-settle g c =
    let exit = err_from_is_err_and c.from_residual.result c.from_residual.ensures.1 in
    let e = c.in_err-settle.ensures in
    rw (exit.1, exit.2) (
      (
        refl,
        (λ _. tt),
        record { call = e.call; lent = tt },
      ),
      record {
        after_borrow = tt;
        asks = e.asks;
        some = tt;
        text = tt;
        as_ready = λ ready. absurd (let fine = e.ready ready in cc);
        again = λ ended none fresh. absurd (let fine = e.again ended none fresh in cc);
      },
    )
