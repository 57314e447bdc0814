use Rattle.std.proofs.Common.{◌≡◌, ◌+◌, ◌-◌, ◌*◌, ◌∙◌, [], get_or, ap, refl, sym, arith}
use Rattle.std.proofs.lemmas.List.{get_or_default}
use Rattle.lbk_uax14.specs.PageCells.{cell_of_pages}
use Rattle.lbk_uax14.proofs.PagesLemmas.{cell_in-filled, filled_more, next_page-same}
use Rattle.lbk_uax14.proofs.pages.Pages.build.Goals as goal
use Rattle.lbk_uax14.proofs.pages.Pages.build.Goals.{then-range-first+then-first-range+in_ok-push, else-range-first+in_ok-digest+in_ok-number_of+in_ok-push-2}

pub loop-k-preserved : goal.loop-k-preserved
loop-k-preserved g c =
    let cell_of = g.W.CellWalk.cell_at c.args.walk.now in
    let to = c.loop-k.invariant.to in
    let is = c.loop-k.invariant.cells in
    let k = c.loop-k.k in
    let numbers = c.loop-k.numbers.items in
    let before = c.loop-k.kept.pages.items in
    let range = c.range-range.result in
    let at = c.range-range.ensures in
    elim c.if-range-first.branch [
      | then-range-first+then-first-range+in_ok-push w ↦
          let n = w.index-number.result.now in
          let counted = to.counted in
          let number : n ≡ get_or numbers (k - 1) 0
          = w.index-number.ensures ∙ get_or_default numbers (k - 1) n 0 (omega arith) in
          rw (w.kept-is, w.numbers-is, w.walk-is, w.in_ok-push.ensures.items) record {
            cells = is;
            to = filled_more cell_of numbers before before k n to (rw number (to.numbered (k - 1) (omega arith)))
                (λ j below. refl) (omega arith) (omega arith)
                (next_page-same cell_of k range.first range.last range.cell (get_or before n [])
                (λ code low high. ap (λ cells. cells code) (sym is) ∙ at.same code low high)
                (omega arith) (omega arith) (rw number (to.filled (k - 1) (omega arith))));
            begins = omega (arith, c.loop-k.invariant.begins);
            reaches = omega (arith, ap (λ range. range.last) at.at, w.if-first-range.true);
          }
      | else-range-first+in_ok-digest+in_ok-number_of+in_ok-push-2 w ↦
          let n = w.in_ok-number_of.field-0 in
          let number = w.in_ok-number_of.ensures.number in
          let more = w.in_ok-number_of.ensures.more in
          let filled = w.in_ok-digest.ensures in
          rw (w.kept-is, w.numbers-is, w.walk-is, w.in_ok-push-2.ensures.items) record {
            cells = w.fill.ensures.cells ∙ is;
            to = filled_more cell_of numbers before w.number_of.new.self.pages.items k n to number.0
                w.in_ok-number_of.ensures.stay more.0 more.1
                (rw number.1 (λ i below. filled.page i below ∙ ap (λ cells. cells (256 * k + i)) is));
            begins = omega (arith, filled.begins);
            reaches = omega (arith, filled.reaches);
          }
    ]

pub invariant_of-result-clause-numbered : goal.invariant_of-result-clause-numbered
invariant_of-result-clause-numbered g c = λ k below.
    rw c.into_pages.ensures.kept (c.loop-k.invariant.to.numbered k (omega arith))

pub returns-clause-pages : goal.returns-clause-pages
unfolding cell_of_pages
returns-clause-pages g c = λ code scalar.
    rw c.into_pages.ensures.kept
    (cell_in-filled (g.W.CellWalk.cell_at c.args.walk.now) c.loop-k.numbers.items c.loop-k.kept.pages.items c.loop-k.k (omega arith) c.loop-k.invariant.to.filled code scalar)
