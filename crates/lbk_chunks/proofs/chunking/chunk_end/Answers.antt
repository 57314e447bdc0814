use Rattle.std.proofs.Common.{◌≡◌, ℕ, false, List, None, ap, refl, sym, ◌∙◌, arith}
use Rattle.std.specs.Option.{unwrap_or}
use Rattle.lbk_rules.specs.declared.Cell.{Cell}
use Rattle.lbk_chunks.specs.declared.cut.Cut.{Cut}
use Rattle.lbk_chunks.specs.Chunks.{fits, is_early}
use Rattle.lbk_chunks.specs.Coming.{IsCutOf, IsEnd, Knows}
use Rattle.lbk_chunks.proofs.CutLemmas.{cut-past}
use Rattle.lbk_chunks.proofs.EndLemmas.{end-alone, end-begins, end-full, end-goes, end-whole, placed-on}
use Rattle.lbk_chunks.proofs.GivenLemmas.{keeps-behind, keeps-from, keeps-more, knows-still}
use Rattle.lbk_chunks.proofs.chunking.chunk_end.Given.{Over}
use Rattle.lbk_chunks.proofs.chunking.chunk_end.Goals as goal
use Rattle.lbk_chunks.proofs.chunking.chunk_end.Goals.{In-Some-first_past}

pub returns-then-not-fits-clause-end : goal.returns-then-not-fits-clause-end
returns-then-not-fits-clause-end g c = λ cell cuts knows.
    let first = c.in-Some.first in
    let joined = c.in-Some.ensures.first cell cuts knows.rising knows.kept (omega (arith, knows.home, knows.told)) in (
      end-alone c.args.limits.now cuts c.args.here.now first joined (sym (c.fits.ensures first refl refl) ∙ c.if-not-fits.true),
      cut-past cuts c.args.here.now.told first _ knows.rising joined,
    )

pub returns-in_default-clause-end : goal.returns-in_default-clause-end
returns-in_default-clause-end g c = λ cell cuts knows. c.in_default.ensures.first cell cuts knows.rising knows.kept (omega (arith, knows.home, knows.told))

pub loop-next-init : goal.loop-next-init
loop-next-init g c =
    let here = c.args.here.now in
    let first = c.in-Some.first in
    let f = c.in-Some.ensures in
    let u = c.fit_up_to-begun in
    let on = c.fit_on-so_far.ensures in
    record {
      keeps = keeps-from (g.K.KindSource.kinds_of c.args.table.now) (g.K.KindSource.pairs_of c.args.table.now) c.args.text.now c.args.window.now c.first_past.new.self c.fit_on-so_far.result.next f.keeps;
      ending = λ cell cuts knows. (
          let joined = f.first cell cuts knows.rising knows.kept (omega (arith, knows.home, knows.told)) in
          on.ending cell (g.K.KindSource.kinds_of c.args.table.now) (g.K.KindSource.pairs_of c.args.table.now) c.args.text.now cuts
          (knows-still cell (g.K.KindSource.kinds_of c.args.table.now) (g.K.KindSource.pairs_of c.args.table.now) c.args.text.now cuts c.args.window.now c.first_past.new.self here f.keeps knows)
          (end-begins c.args.limits.now cuts here first u.result.last u.result.early joined (cut-past cuts here.told first _ knows.rising joined)
          (sym (c.fits.ensures first refl refl) ∙ c.if-not-fits.false) u.ensures.last u.ensures.early));
      past = (let same = ap (λ (d : Cut). d.at) u.ensures.last in omega (arith, same, f.past, on.onward));
      placed = λ kept. on.placed c.args.text.now (f.keeps.kept kept)
          (placed-on here.told _ (is_early c.args.limits.now here first) first u.result.last None u.result.early (f.past, f.within kept)
          (λ g no. absurd (let wrong : ⊥ = cc in wrong)) u.ensures.last u.ensures.early);
    }

pub loop-next-preserved : goal.loop-next-preserved
loop-next-preserved g c =
    let here = c.args.here.now in
    let last = c.loop-next.so_far.last in
    let next = c.in-Some-first_past.next in
    let f = c.in-Some-first_past.ensures in
    let i = c.loop-next.invariant in
    let u = c.fit_up_to-begun-in-Some-first_past in
    let on = c.fit_on-so_far-in-Some-first_past.ensures in
    let window = c.first_past-in-loop-next.new.self in
    let keeps = keeps-more (g.K.KindSource.kinds_of c.args.table.now) (g.K.KindSource.pairs_of c.args.table.now) c.args.text.now c.args.window.now c.loop-next.window window i.keeps f.keeps in
    record {
      keeps = keeps-from (g.K.KindSource.kinds_of c.args.table.now) (g.K.KindSource.pairs_of c.args.table.now) c.args.text.now c.args.window.now window c.fit_on-so_far-in-Some-first_past.result.next keeps;
      ending = λ cell cuts knows. (
          let joined = f.first cell cuts knows.rising (i.keeps.are cell cuts knows.rising knows.kept)
          (keeps-behind (g.K.KindSource.kinds_of c.args.table.now) (g.K.KindSource.pairs_of c.args.table.now) c.args.text.now c.args.window.now c.loop-next.window last.at i.keeps (omega (arith, knows.home, knows.told, i.past))) in
          on.ending cell (g.K.KindSource.kinds_of c.args.table.now) (g.K.KindSource.pairs_of c.args.table.now) c.args.text.now cuts
          (knows-still cell (g.K.KindSource.kinds_of c.args.table.now) (g.K.KindSource.pairs_of c.args.table.now) c.args.text.now cuts c.args.window.now window here keeps knows)
          (end-goes c.args.limits.now cuts here last next u.result.last c.loop-next.so_far.early u.result.early (i.ending cell cuts knows) joined
          (cut-past cuts last.at next _ knows.rising joined)
          (sym (c.fits-in-Some-first_past.ensures next refl refl) ∙ c.if-not-fits-2.false) u.ensures.last u.ensures.early));
      past = (let same = ap (λ (d : Cut). d.at) u.ensures.last in omega (arith, same, i.past, f.past, on.onward));
      placed = λ kept. (
          let were = i.keeps.kept kept in
          on.placed c.args.text.now (f.keeps.kept were)
          (placed-on here.told _ (is_early c.args.limits.now here next) next u.result.last c.loop-next.so_far.early u.result.early (omega (arith, i.past, f.past), f.within were)
          (i.placed kept).1 u.ensures.last u.ensures.early));
    }

-- where the next cut does not fit, the chunk ends at the last early one, or at the last that fits if there is none
full : (g : Over) (c : In-Some-first_past g) → let last = c.loop-next.so_far.last in let next = c.in-Some-first_past.next in
    (end : Cut) → fits c.args.limits.now c.args.here.now next ≡ false → unwrap_or c.loop-next.so_far.early last ≡ end
    → (cell : ℕ → Cell) (cuts : List Cut) → Knows cell (g.K.KindSource.kinds_of c.args.table.now) (g.K.KindSource.pairs_of c.args.table.now) c.args.text.now cuts c.args.window.now c.args.here.now
    → IsEnd c.args.limits.now cuts c.args.here.now end × IsCutOf cuts end
full g c end too_much is cell cuts knows =
    let last = c.loop-next.so_far.last in
    let next = c.in-Some-first_past.next in
    let i = c.loop-next.invariant in
    let joined = c.in-Some-first_past.ensures.first cell cuts knows.rising (i.keeps.are cell cuts knows.rising knows.kept)
    (keeps-behind (g.K.KindSource.kinds_of c.args.table.now) (g.K.KindSource.pairs_of c.args.table.now) c.args.text.now c.args.window.now c.loop-next.window last.at i.keeps (omega (arith, knows.home, knows.told, i.past))) in
    end-full c.args.limits.now cuts c.args.here.now last next end c.loop-next.so_far.early (i.ending cell cuts knows) joined too_much is

pub returns-in-Some-early-clause-end : goal.returns-in-Some-early-clause-end
returns-in-Some-early-clause-end g c =
    full g (goal.at.returns-in-Some-early-clause-end g c).In-Some-first_past _ (sym (c.fits-in-Some-first_past.ensures c.in-Some-first_past.next refl refl) ∙ c.if-not-fits-2.true)
    (ap (λ e. unwrap_or e c.loop-next.so_far.last) c.in-Some-early.is)

pub returns-then-not-fits-2-clause-end : goal.returns-then-not-fits-2-clause-end
returns-then-not-fits-2-clause-end g c =
    full g (goal.at.returns-then-not-fits-2-clause-end g c).In-Some-first_past _ (sym (c.fits-in-Some-first_past.ensures c.in-Some-first_past.next refl refl) ∙ c.if-not-fits-2.true)
    (ap (λ e. unwrap_or e c.loop-next.so_far.last) c.in_default-early.is)

pub returns-clause-end : goal.returns-clause-end
returns-clause-end g c = λ cell cuts knows.
    let last = c.loop-next.so_far.last in
    let i = c.loop-next.invariant in
    let e = i.ending cell cuts knows in (
      end-whole c.args.limits.now cuts c.args.here.now last c.loop-next.so_far.early e
          (c.in_default-first_past.ensures.first cell cuts knows.rising (i.keeps.are cell cuts knows.rising knows.kept)
          (keeps-behind (g.K.KindSource.kinds_of c.args.table.now) (g.K.KindSource.pairs_of c.args.table.now) c.args.text.now c.args.window.now c.loop-next.window last.at i.keeps (omega (arith, knows.home, knows.told, i.past)))),
      e.cut,
    )

pub returns-in-Some-early-clause-keeps : goal.returns-in-Some-early-clause-keeps
returns-in-Some-early-clause-keeps g c =
    let window = c.first_past-in-loop-next.new.self in
    keeps-from (g.K.KindSource.kinds_of c.args.table.now) (g.K.KindSource.pairs_of c.args.table.now) c.args.text.now c.args.window.now window c.loop-next.so_far.next_early
    (keeps-more (g.K.KindSource.kinds_of c.args.table.now) (g.K.KindSource.pairs_of c.args.table.now) c.args.text.now c.args.window.now c.loop-next.window window c.loop-next.invariant.keeps c.in-Some-first_past.ensures.keeps)

pub returns-then-not-fits-2-clause-keeps : goal.returns-then-not-fits-2-clause-keeps
returns-then-not-fits-2-clause-keeps g c =
    keeps-more (g.K.KindSource.kinds_of c.args.table.now) (g.K.KindSource.pairs_of c.args.table.now) c.args.text.now c.args.window.now c.loop-next.window c.first_past-in-loop-next.new.self
    c.loop-next.invariant.keeps c.in-Some-first_past.ensures.keeps

pub returns-clause-keeps : goal.returns-clause-keeps
returns-clause-keeps g c =
    keeps-more (g.K.KindSource.kinds_of c.args.table.now) (g.K.KindSource.pairs_of c.args.table.now) c.args.text.now c.args.window.now c.loop-next.window c.first_past-in-loop-next.new.self
    c.loop-next.invariant.keeps c.in_default-first_past.ensures.keeps
