use Rattle.std.proofs.Common.{◌≡◌, ℕ, ◌<◌, List, ◌∷◌, Some, None, ap, refl, sym, ◌∙◌, arith}
use Rattle.std.specs.Prelude.{find}
use Rattle.lbk_rules.specs.declared.Cell.{Cell}
use Rattle.lbk_chunks.specs.declared.cut.Cut.{Cut}
use Rattle.lbk_chunks.specs.Chunks.{cuts_past, may_start}
use Rattle.lbk_chunks.specs.Coming.{Knows}
use Rattle.lbk_chunks.proofs.CutLemmas.{cut-past, past-rising}
use Rattle.lbk_chunks.proofs.GivenLemmas.{keeps-behind, keeps-more}
use Rattle.lbk_chunks.proofs.StartLemmas.{after-apart, after-found, after-last, find-all_past, find-here, find-later, find-on, stands}
use Rattle.lbk_chunks.proofs.chunking.next_start.Given.{Over}
use Rattle.lbk_chunks.proofs.chunking.next_start.Goals as goal
use Rattle.lbk_chunks.proofs.chunking.next_start.Goals.{In-Some-first_past}

pub returns-then-limits-eq0-clause-next : goal.returns-then-limits-eq0-clause-next
returns-then-limits-eq0-clause-next g c = λ cell cuts knows told cut.
    let end = c.args.end.now in
    let s = stands cuts c.start_at-fresh.result end end.at c.start_at-fresh.ensures cut in
    (c.start_at-fresh.ensures ∙ sym (after-apart c.args.limits.now cuts c.args.here.now end (cuts_past end.at cuts) c.if-limits-eq0.true), s)

pub returns-in_default-clause-next : goal.returns-in_default-clause-next
returns-in_default-clause-next g c = λ cell cuts knows told cut.
    let end = c.args.end.now in
    let s = stands cuts c.start_at-fresh.result end end.at c.start_at-fresh.ensures cut in
    let none = c.in_default.ensures.first cell cuts knows.rising knows.kept (omega (arith, knows.home, knows.told, told)) in
    (c.start_at-fresh.ensures ∙ sym (after-last c.args.limits.now cuts c.args.here.now end none), s)

pub loop-found-init : goal.loop-found-init
loop-found-init g c = record {
  keeps = c.in-Some.ensures.keeps;
  onward = c.start_from-at.ensures.start;
  find = λ cell cuts knows told.
      find-later (may_start c.args.limits.now c.args.here.now c.args.end.now c.in-Some.next) c.args.here.now.start c.start_from-at.result cuts
      (λ d after before. c.start_from-at.ensures.none c.args.end.now c.in-Some.next d refl (omega (arith, knows.told, told)) after before)
      knows.rising c.start_from-at.ensures.start;
}

-- the cut after the end of the chunk, and the one that the search has met
met : (g : Over) (c : In-Some-first_past g) → let next = c.in-Some.next in let found = c.in-Some-first_past.found in
    (cell : ℕ → Cell) (cuts : List Cut) → Knows cell (g.K.KindSource.kinds_of c.args.table.now) (g.K.KindSource.pairs_of c.args.table.now) c.args.text.now cuts c.args.window.now c.args.here.now → c.args.here.now.told < c.args.end.now.at
    → (cuts_past c.args.end.now.at cuts ≡ next ∷ cuts_past next.at cuts) × (cuts_past c.loop-found.at cuts ≡ found ∷ cuts_past found.at cuts)
met g c cell cuts knows told =
    let i = c.loop-found.invariant in (
      c.in-Some.ensures.first cell cuts knows.rising knows.kept (omega (arith, knows.home, knows.told, told)),
      c.in-Some-first_past.ensures.first cell cuts knows.rising (i.keeps.are cell cuts knows.rising knows.kept)
          (keeps-behind (g.K.KindSource.kinds_of c.args.table.now) (g.K.KindSource.pairs_of c.args.table.now) c.args.text.now c.args.window.now c.loop-found.window c.loop-found.at i.keeps (omega (arith, knows.home, i.onward))),
    )

pub loop-found-preserved : goal.loop-found-preserved
loop-found-preserved g c =
    let end = c.args.end.now in
    let h = c.args.here.now in
    let next = c.in-Some.next in
    let found = c.in-Some-first_past.found in
    let f = c.in-Some-first_past.ensures in
    let i = c.loop-found.invariant in
    let again = c.start_at-again.ensures in
    record {
      keeps = keeps-more (g.K.KindSource.kinds_of c.args.table.now) (g.K.KindSource.pairs_of c.args.table.now) c.args.text.now c.args.window.now c.loop-found.window c.first_past-in-loop-found.new.self i.keeps f.keeps;
      onward = omega (arith, i.onward, f.past);
      find = λ cell cuts knows told. (
          let joined = (met g (goal.at.loop-found-preserved g c).In-Some-first_past cell cuts knows told).1 in
          let may = c.may_start.ensures end next found again refl refl in
          find-on c.args.limits.now h end next found (cuts_past found.at cuts) (cuts_past c.args.here.now.start cuts) (sym may ∙ c.if-may_start.false)
          (i.find cell cuts knows told ∙ ap (find (may_start c.args.limits.now h end next)) joined));
    }

pub returns-then-end-found-clause-next : goal.returns-then-end-found-clause-next
returns-then-end-found-clause-next g c = λ cell cuts knows told cut.
    let end = c.args.end.now in
    let h = c.args.here.now in
    let next = c.in-Some.next in
    let found = c.in-Some-first_past.found in
    let m = met g (goal.at.returns-then-end-found-clause-next g c).In-Some-first_past cell cuts knows told in
    let none = c.loop-found.invariant.find cell cuts knows told ∙ find-all_past c.args.limits.now h end next c.loop-found.at (cuts_past c.loop-found.at cuts) found (cuts_past found.at cuts)
    (past-rising 0 c.loop-found.at cuts knows.rising) m.1 c.if-end-found.true in
    let s = stands cuts c.start_at-fresh.result end end.at c.start_at-fresh.ensures cut in
    (c.start_at-fresh.ensures ∙ sym (after-found c.args.limits.now cuts (cuts_past next.at cuts) h end next None m.0 none), s)

pub returns-then-may_start-clause-next : goal.returns-then-may_start-clause-next
returns-then-may_start-clause-next g c = λ cell cuts knows told cut.
    let end = c.args.end.now in
    let h = c.args.here.now in
    let next = c.in-Some.next in
    let found = c.in-Some-first_past.found in
    let m = met g (goal.at.returns-then-may_start-clause-next g c).In-Some-first_past cell cuts knows told in
    let again = c.start_at-again.ensures in
    let may = c.may_start.ensures end next found again refl refl in
    let here = c.loop-found.invariant.find cell cuts knows told ∙ ap (find (may_start c.args.limits.now h end next)) m.1
    ∙ find-here (may_start c.args.limits.now h end next) found (cuts_past found.at cuts) (sym may ∙ c.if-may_start.true) in
    let s = stands cuts c.start_at-again.result found end.at again (cut-past cuts c.loop-found.at found _ knows.rising m.1) in
    (again ∙ sym (after-found c.args.limits.now cuts (cuts_past next.at cuts) h end next (Some found) m.0 here), s)

pub returns-clause-next : goal.returns-clause-next
returns-clause-next g c = λ cell cuts knows told cut.
    let end = c.args.end.now in
    let h = c.args.here.now in
    let next = c.in-Some.next in
    let i = c.loop-found.invariant in
    let n = c.in-Some.ensures.first cell cuts knows.rising knows.kept (omega (arith, knows.home, knows.told, told)) in
    let none = i.find cell cuts knows told ∙ ap (find (may_start c.args.limits.now h end next))
    (c.in_default-first_past.ensures.first cell cuts knows.rising (i.keeps.are cell cuts knows.rising knows.kept)
    (keeps-behind (g.K.KindSource.kinds_of c.args.table.now) (g.K.KindSource.pairs_of c.args.table.now) c.args.text.now c.args.window.now c.loop-found.window c.loop-found.at i.keeps (omega (arith, knows.home, i.onward)))) in
    let s = stands cuts c.start_at-fresh.result end end.at c.start_at-fresh.ensures cut in
    (c.start_at-fresh.ensures ∙ sym (after-found c.args.limits.now cuts (cuts_past next.at cuts) h end next None n none), s)

pub returns-then-end-found-clause-keeps : goal.returns-then-end-found-clause-keeps
returns-then-end-found-clause-keeps g c =
    keeps-more (g.K.KindSource.kinds_of c.args.table.now) (g.K.KindSource.pairs_of c.args.table.now) c.args.text.now c.args.window.now c.loop-found.window c.first_past-in-loop-found.new.self c.loop-found.invariant.keeps c.in-Some-first_past.ensures.keeps

pub returns-then-may_start-clause-keeps : goal.returns-then-may_start-clause-keeps
returns-then-may_start-clause-keeps g c =
    keeps-more (g.K.KindSource.kinds_of c.args.table.now) (g.K.KindSource.pairs_of c.args.table.now) c.args.text.now c.args.window.now c.loop-found.window c.first_past-in-loop-found.new.self c.loop-found.invariant.keeps c.in-Some-first_past.ensures.keeps

pub returns-clause-keeps : goal.returns-clause-keeps
returns-clause-keeps g c =
    keeps-more (g.K.KindSource.kinds_of c.args.table.now) (g.K.KindSource.pairs_of c.args.table.now) c.args.text.now c.args.window.now c.loop-found.window c.first_past-in-loop-found.new.self c.loop-found.invariant.keeps c.in_default-first_past.ensures.keeps
