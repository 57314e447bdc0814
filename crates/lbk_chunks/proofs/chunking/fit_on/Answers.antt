use Rattle.std.proofs.Common.{◌≡◌, Some, ap, cond, refl, slice_index_or, subst, sym, ◌∙◌, arith}
use Rattle.lbk_chunks.specs.declared.cut.Cut.{Cut}
use Rattle.lbk_chunks.specs.Chunks.{is_early}
use Rattle.lbk_chunks.specs.Coming.{IsEnding, StandsIn, early_in, last_in, no_cut}
use Rattle.lbk_chunks.proofs.BlockLemmas.{block-next, early-next, last-first, last-next, stands-behind}
use Rattle.lbk_chunks.proofs.CutLemmas.{cut-past}
use Rattle.lbk_chunks.proofs.EndLemmas.{end-goes, placed-on}
use Rattle.lbk_chunks.proofs.chunking.fit_on.Goals as goal

pub loop-k-init : goal.loop-k-init
loop-k-init c =
    let start = c.args.start in
    let first = last-first c.block_past-block.result.now.cuts c.behind_cut-from.result start.last in
    record {
      few = (omega arith, c.behind_cut-from.ensures.few);
      early = omega arith;
      last = ap (λ (d : Cut). d.at) (sym first);
      ending = λ cell kinds pairs text cuts knows begins. subst (λ d. IsEnding c.args.limits.now cuts c.args.here.now d start.early) (sym first) begins;
      placed = λ text kept were. (subst (StandsIn c.args.here.now.told _) (sym first) were.0, were.1);
      onward = omega arith;
    }

pub loop-k-preserved : goal.loop-k-preserved
loop-k-preserved c =
    let k = c.loop-k.k in
    let i = c.loop-k.invariant in
    let block = c.block_past-block.result.now in
    let from = c.behind_cut-from.result in
    let start = c.args.start in
    let last = last_in block.cuts from start.last k in
    let next = slice_index_or block.cuts k no_cut in
    let found = stands-behind block from k start.last c.behind_cut-from.ensures.found i.few.0 c.loop-k-test.true in
    let same = last-next block.cuts from k start.last i.few.0 in
    let may = is_early c.args.limits.now c.args.here.now next in
    let early : early_in block.cuts start.early c.early_place-early.result ≡ cond may (Some next) (early_in block.cuts start.early c.loop-k.early) =
    ap (early_in block.cuts start.early) c.early_place-early.ensures.early ∙ early-next block.cuts start.early k c.loop-k.early may in
    record {
      few = (omega (arith, i.few.0), omega (arith, c.loop-k-test.true));
      early = c.early_place-early.ensures.few (omega (arith, i.early));
      last = ap (λ (d : Cut). d.at) (sym same);
      ending = λ cell kinds pairs text cuts knows begins. (
          let joined = block-next cell kinds pairs text cuts knows.rising block k last (c.block_past-block.ensures.block cell kinds pairs text cuts knows.kept)
          found.0 c.loop-k-test.true found.1 (omega (arith, i.last, c.if-next-last.false)) in
          end-goes c.args.limits.now cuts c.args.here.now last next _ _ _ (i.ending cell kinds pairs text cuts knows begins) joined
          (cut-past cuts last.at next _ knows.rising joined) (sym (c.fits.ensures next refl refl) ∙ c.if-not-fits.false) same early);
      placed = λ text kept were. (
          let placed = i.placed text kept were in
          placed-on c.args.here.now.told _ may next _ _ _ (omega (arith, placed.0.0, i.last, c.if-next-last.false), c.block_past-block.ensures.within text kept k c.loop-k-test.true)
          placed.1 same early);
      onward = omega (arith, i.onward, c.if-next-last.false);
    }

pub returns-then-early-eq0-clause-ending : goal.returns-then-early-eq0-clause-ending
returns-then-early-eq0-clause-ending c = λ cell kinds pairs text cuts knows begins.
    let last = last_in c.block_past-block.result.now.cuts c.behind_cut-from.result c.args.start.last c.loop-k.k in
    subst (λ d. IsEnding c.args.limits.now cuts c.args.here.now d c.cut_or.result) (sym c.cut_before.ensures)
    (subst (λ e. IsEnding c.args.limits.now cuts c.args.here.now last e) (sym c.cut_or.ensures) (c.loop-k.invariant.ending cell kinds pairs text cuts knows begins))

pub returns-else-early-eq0-clause-ending : goal.returns-else-early-eq0-clause-ending
returns-else-early-eq0-clause-ending c = λ cell kinds pairs text cuts knows begins.
    let last = last_in c.block_past-block.result.now.cuts c.behind_cut-from.result c.args.start.last c.loop-k.k in
    subst (λ d. IsEnding c.args.limits.now cuts c.args.here.now d c.cut_or.result) (sym c.cut_before.ensures)
    (subst (λ e. IsEnding c.args.limits.now cuts c.args.here.now last e) (sym c.cut_or.ensures) (c.loop-k.invariant.ending cell kinds pairs text cuts knows begins))
