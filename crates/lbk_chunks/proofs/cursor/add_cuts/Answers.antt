use Rattle.std.proofs.Common.{◌++◌, ◌+◌, ◌≡◌, drop_of_length-le, [], drop, length, ap, subst, ◌∙◌, arith}
use Rattle.std.proofs.lemmas.List.{length-map, length-take-le}
use Rattle.lbk_bytes.specs.Shown.{raw_of}
use Rattle.lbk_chunks.specs.Coming.{AreAmong}
use Rattle.lbk_chunks.proofs.BreakLemmas.{shown-at}
use Rattle.lbk_chunks.proofs.cursor.add_cuts.Goals as goal

pub loop-k-preserved : goal.loop-k-preserved
loop-k-preserved c =
    let k = c.loop-k.k in
    let i = c.loop-k.invariant in
    let a = c.add_cut-first in
    let m = c.add_known-more in
    let text = c.args.text.now in
    record {
      few = m.ensures.next.1;
      among = λ cuts found rest is were. (
          let s = shown-at k c.args.count found c.args.breaks.now is c.loop-k-test.true c.requires.count in
          m.ensures.among text cuts found rest is
          (a.ensures.among cuts s.break_at (drop (k + 1) found ++ rest) s.shown
          (subst (λ l. AreAmong text cuts (l ++ rest) c.loop-k.here c.loop-k.words c.loop-k.out) s.joined (i.among cuts found rest is were))));
      same = m.ensures.same ∙ a.ensures.same ∙ i.same;
      counts = (omega (arith, m.ensures.few.0, a.ensures.few.0, i.counts.0), omega (arith, m.ensures.few.1, a.ensures.few.1, i.counts.1));
      within = λ size below before. m.ensures.within size below (a.ensures.within size (below k c.loop-k-test.true) (i.within size below before));
      counted = λ some all full.
          m.ensures.counted all (omega (arith, full, all, m.ensures.few.1, a.ensures.few.1, i.counts.1)) (a.ensures.counted (omega (arith, full, all, m.ensures.few.1, a.ensures.few.1, i.counts.1)));
    }

pub returns-clause-among : goal.returns-clause-among
returns-clause-among c = λ cuts found rest is were.
    let all : c.loop-k.k ≡ c.args.count = omega (arith, c.loop-k.invariant.few, c.loop-k-test.false) in
    let size = length-map found raw_of in
    let many = ap length is in
    let taken = length-take-le c.args.count c.args.breaks.now c.requires.count in
    let none : drop c.loop-k.k found ≡ [] = drop_of_length-le found (omega (arith, size, many, taken, all)) in
    subst (λ l. AreAmong c.args.text.now cuts (l ++ rest) c.loop-k.here c.loop-k.words c.loop-k.out) none (c.loop-k.invariant.among cuts found rest is were)

pub returns-clause-few : goal.returns-clause-few
returns-clause-few c =
    let i = c.loop-k.invariant in
    (i.counts.0, omega (arith, i.counts.1, i.few, c.requires.room.0))

pub returns-clause-counted : goal.returns-clause-counted
returns-clause-counted c = λ some full.
    let i = c.loop-k.invariant in
    let all : c.loop-k.k ≡ c.args.count = omega (arith, i.few, c.loop-k-test.false) in
    i.counted (omega (arith, all, some)) all (omega (arith, full, all, i.counts.1, c.requires.room.0))
