use Rattle.std.proofs.Common.{ap, drop, length, take, inl, inr, refl, arith}
use Rattle.std.proofs.lemmas.Grind.{common_steps}
use Rattle.lbk_chunks.specs.Coming.{breaks_left}
use Rattle.lbk_chunks.proofs.CursorLemmas.{read-all, read-breaks, read-on, shorter-on}
use Rattle.lbk_chunks.proofs.cursor.fill_cuts.Goals as goal

pub loop-here-init : goal.loop-here-init
loop-here-init g c = record {
  first = λ cell cuts read is. record { rest = cuts; joined = refl; onward = is; read = read };
  room = omega arith;
  within = λ k no. absurd (omega arith);
  counted = λ no. absurd (omega arith);
  shorter = inl refl;
  onward = omega arith;
}

pub loop-here-preserved : goal.loop-here-preserved
loop-here-preserved g c =
    let i = c.loop-here.invariant in
    let n = c.next_breaks-next in
    let a = c.add_cuts-here in
    let kinds = g.K.KindSource.kinds_of c.args.table.now in
    let pairs = g.K.KindSource.pairs_of c.args.table.now in
    let text = c.args.text.now in
    let here = c.loop-here.here in
    let out = c.loop-here.out in
    record {
      first = λ cell cuts read is. (
          let s = i.first cell cuts read is in
          let next = n.ensures.first cell s.onward.breaks s.onward.comes in
          read-on cell kinds pairs text cuts _ here a.result out a.new.out n.new.block n.result c.loop-here.words a.new.words s next a.ensures.same
          (a.ensures.among cuts (take n.result.count s.onward.breaks) (drop n.result.count s.onward.breaks) next.shown
          (read-breaks cell kinds pairs text cuts _ here out n.new.block n.result c.loop-here.words s next)));
      room = a.ensures.few.1;
      within = a.ensures.within (length text) n.ensures.within i.within;
      counted = λ _. a.ensures.counted (omega (arith, c.if-next-eq0.false));
      shorter = inr (shorter-on text here.place.breaks a.result.place.breaks n.result.state n.result.count c.args.place.breaks c.if-next-eq0.false a.ensures.same n.ensures.shorter i.onward);
      onward = (let same = ap (breaks_left text) a.ensures.same in omega (arith, same, n.ensures.onward, i.onward));
    }

pub returns-then-next-eq0-clause-first : goal.returns-then-next-eq0-clause-first
returns-then-next-eq0-clause-first g c = λ cell cuts read is.
    let n = c.next_breaks-next in
    let s = c.loop-here.invariant.first cell cuts read is in
    let next = n.ensures.first cell s.onward.breaks s.onward.comes in (
      record {
        rest = s.rest;
        joined = s.joined;
        onward = s.onward;
        all = λ _. read-all cell (g.K.KindSource.kinds_of c.args.table.now) (g.K.KindSource.pairs_of c.args.table.now) c.args.text.now cuts _ c.loop-here.here c.loop-here.out n.new.block n.result c.loop-here.words (grind (arith, common_steps)) c.if-next-eq0.true s next;
      },
      s.read,
    )

pub returns-clause-first : goal.returns-clause-first
returns-clause-first g c = λ cell cuts read is.
    let s = c.loop-here.invariant.first cell cuts read is in
    (record { rest = s.rest; joined = s.joined; onward = s.onward; all = λ few. absurd (omega (arith, few, c.loop-here-test.false)) }, s.read)
