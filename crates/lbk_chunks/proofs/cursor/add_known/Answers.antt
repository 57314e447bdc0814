use Rattle.std.proofs.Common.{◌++◌, ◌+◌, ap, drop, inr, subst, sym, ◌∙◌, arith}
use Rattle.lbk_chunks.specs.declared.cut.Place.{Place}
use Rattle.lbk_chunks.specs.Coming.{AreAmong}
use Rattle.lbk_chunks.proofs.BreakLemmas.{shown-at}
use Rattle.lbk_chunks.proofs.CursorLemmas.{pass-before}
use Rattle.lbk_chunks.proofs.WordLemmas.{with-breaks}
use Rattle.lbk_chunks.proofs.cursor.add_known.Goals as goal

pub loop-k-preserved : goal.loop-k-preserved
loop-k-preserved c =
    let k = c.loop-k.k in
    let i = c.loop-k.invariant in
    let p = c.pass_known in
    let a = c.put_cut-here in
    let same = ap (λ (q : Place). q.words) a.ensures.same in
    record {
      few = (omega (arith, i.few.0), omega (arith, c.loop-k-test.true));
      among = λ text cuts found rest is were. (
          let s = shown-at k c.args.count found c.args.breaks.now is c.loop-k-test.true c.requires.count.1 in
          let were = subst (λ l. AreAmong text cuts (l ++ rest) c.loop-k.here c.loop-k.words c.loop-k.out) s.joined (i.among text cuts found rest is were) in
          let passed = p.ensures.passed text were.read in
          a.ensures.among text cuts s.break_at (drop (k + 1) found ++ rest) p.new.words s.shown
          (pass-before text cuts s.break_at (drop (k + 1) found ++ rest) _ c.loop-k.here _ c.loop-k.words p.new.words c.loop-k.out s.shown were
          (passed.0, with-breaks text _ c.loop-k.here.place p.result c.args.start.place.breaks passed.1 (sym i.same)))
          (λ none. absurd (omega (arith, none, c.if-place-found.false))) (inr c.if-place-found.false));
      same = ap (λ (q : Place). q.breaks) a.ensures.same;
      counts = (omega (arith, a.ensures.few.0, i.counts.0), omega (arith, a.ensures.few.1, i.counts.1));
      within = λ size below before. a.ensures.within size (below k c.loop-k-test.true) (i.within size below before);
      counted = λ full start. same ∙ a.ensures.counted (omega (arith, full, i.counts.1, a.ensures.few.1));
    }

pub returns-then-place-found-clause-among : goal.returns-then-place-found-clause-among
returns-then-place-found-clause-among c = λ text cuts found rest is were.
    let k = c.loop-k.k in
    let i = c.loop-k.invariant in
    let p = c.pass_known in
    let s = shown-at k c.args.count found c.args.breaks.now is c.loop-k-test.true c.requires.count.1 in
    let were = subst (λ l. AreAmong text cuts (l ++ rest) c.loop-k.here c.loop-k.words c.loop-k.out) s.joined (i.among text cuts found rest is were) in
    let passed = p.ensures.passed text were.read in
    subst (λ l. AreAmong text cuts (l ++ rest) (record { count = c.loop-k.here.count; place = record p.result { breaks = c.args.start.place.breaks } }) p.new.words c.loop-k.out) (sym s.joined)
    (pass-before text cuts s.break_at (drop (k + 1) found ++ rest) _ c.loop-k.here _ c.loop-k.words p.new.words c.loop-k.out s.shown were
    (passed.0, with-breaks text _ c.loop-k.here.place p.result c.args.start.place.breaks passed.1 (sym i.same)))
