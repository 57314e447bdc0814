use Rattle.std.proofs.Common.{◌≡◌, ◌+◌, ◌<◌, ◌≤◌, ◌≢◌, ◌∙◌, ap, arith, below_more, length, length-set, get_or-set_other, get_or-set_same, sym, take, [], ◌∷◌}
use Rattle.std.specs.List.{fold}
use Rattle.std.proofs.lemmas.List.{take_all, take_more_set}
use Rattle.std.proofs.lemmas.List.Sums.{fold-append}
use Rattle.lbk_uax14.specs.Pages.{cell_number, digest_of, digest_with, no_cells, with_run}
use Rattle.lbk_uax14.proofs.pages.fill.Goals as goal
use Rattle.lbk_uax14.proofs.pages.fill.Goals.{then-range-first+in_ok-go_on, else-range-first}

pub loop-k-preserved : goal.loop-k-preserved
loop-k-preserved g c =
    let k = c.loop-k.k in
    let to = c.loop-k.invariant in
    let range = c.range-range in
    let lt : k < length c.loop-k.page = omega arith in
    record {
      whole = simp length-set to.whole;
      cells = cells;
      filled = below_more _ _
          (λ i h. let ne : i ≢ k = omega arith in rw get_or-set_other (to.filled i h))
          (rw get_or-set_same (sym (ap (λ at. at (c.args.first + k)) (sym cells) ∙ range.ensures.same (c.args.first + k) ends.0 ends.1)));
      begins = omega (arith, ap (λ r. r.first) range.ensures.at, ends.0);
      before = omega (arith, ap (λ r. r.first) range.ensures.at, ends.0);
      reaches = omega (arith, ap (λ r. r.last) range.ensures.at, ends.1);
      number = number;
      digest =
          c.digest_with-digest.ensures range.result.cell (number ∙ ap (λ r. cell_number r.cell) (sym range.ensures.at))
          ∙ ap (λ digest. digest_with digest range.result.cell) to.digest
          ∙ sym (ap (fold digest_with no_cells) (take_more_set c.loop-k.page k range.result.cell lt) ∙ fold-append digest_with no_cells (take k c.loop-k.page) (range.result.cell ∷ []));
    }
  where
    cells : g.W.CellWalk.cell_at c.if-range-first.walk ≡ g.W.CellWalk.cell_at c.args.walk.now
    cells = elim c.if-range-first.branch [
      | then-range-first+in_ok-go_on w ↦ rw w.walk-is (w.go_on.ensures.cells ∙ c.loop-k.invariant.cells)
      | else-range-first w ↦ rw w.walk-is c.loop-k.invariant.cells
    ]

    ends : (c.range-range.result.first ≤ c.args.first + c.loop-k.k) × (c.args.first + c.loop-k.k ≤ c.range-range.result.last)
    ends =
        let first = ap (λ r. r.first) c.range-range.ensures.at in
        let last = ap (λ r. r.last) c.range-range.ensures.at in
        let before = ap (λ r. r.last) c.range-in-loop-k.ensures.at in
        let rises = c.range-range.ensures.rises.0 in
        elim c.if-range-first.branch [
          | then-range-first+in_ok-go_on w ↦
              let next = ap (λ walk. (g.W.CellWalk.at walk).first) w.walk-is ∙ w.in_ok-go_on.ensures.next in
              (omega (arith, first, before, next, w.if-range-first.true), omega (arith, first, before, next, rises))
          | else-range-first w ↦
              let stays = ap g.W.CellWalk.at w.walk-is in (
                omega (arith, first, ap (λ r. r.first) stays, c.loop-k.invariant.begins),
                omega (arith, last, ap (λ r. r.last) stays, before, w.if-range-first.false),
              )
        ]

    number : c.if-range-first.number ≡ cell_number (g.W.CellWalk.at c.if-range-first.walk).cell
    number = elim c.if-range-first.branch [
      | then-range-first+in_ok-go_on w ↦
          rw (w.walk-is, w.number-is) (w.cell_number-number-then-range-first.ensures ∙ ap (λ r. cell_number r.cell) w.range-then-range-first.ensures.at)
      | else-range-first w ↦ rw (w.walk-is, w.number-is) c.loop-k.invariant.number
    ]

pub returns-clause-digest : goal.returns-clause-digest
unfolding digest_of
returns-clause-digest g c = c.with_run.ensures ∙ ap with_run (c.loop-k.invariant.digest ∙ ap (fold digest_with no_cells) (take_all c.loop-k.k c.loop-k.page (omega arith)))
