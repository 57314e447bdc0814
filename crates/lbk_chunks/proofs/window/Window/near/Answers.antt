use Rattle.std.proofs.Common.{◌-◌, ap, refl, slice_index_or, sym, arith}
use Rattle.lbk_chunks.specs.Chunks.{cuts_past}
use Rattle.lbk_chunks.specs.Coming.{no_cut}
use Rattle.lbk_chunks.proofs.BlockLemmas.{mark-behind}
use Rattle.lbk_chunks.proofs.window.Window.near.Goals as goal

pub returns-then-cuts-many-clause-mark : goal.returns-then-cuts-many-clause-mark
returns-then-cuts-many-clause-mark g c = λ cell cuts rising kept.
    let f = c.fill_cuts-filled in
    let home = c.args.self.now.home in
    let full = c.if-filled-many.true in
    let first = f.ensures.first cell (cuts_past home.at cuts) kept.words kept.home.ahead in (
      mark-behind cell (g.K.KindSource.kinds_of c.args.table.now) (g.K.KindSource.pairs_of c.args.table.now) c.args.text.now cuts rising home _ c.many_up_to-many.result f.new.out f.result kept.home
          first.0 (omega (arith, full, c.if-many-ne0.true)) (omega (arith, full, f.auto.out, c.many_up_to-many.ensures))
          refl (ap (λ n. (slice_index_or f.new.out (n - 1) no_cut).at) (sym full)) (f.ensures.counted (omega (arith, full, c.if-many-ne0.true)) full),
      first.1,
    )

pub returns-clause-mark : goal.returns-clause-mark
returns-clause-mark g c = λ cell cuts rising kept. (kept.home, (c.fill_cuts-filled.ensures.first cell (cuts_past c.args.self.now.home.at cuts) kept.words kept.home.ahead).1)
