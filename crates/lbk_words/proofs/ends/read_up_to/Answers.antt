use Rattle.std.proofs.Common.{◌∙◌, arith}
use Rattle.lbk_words.proofs.ends.read_up_to.Goals as goal

pub alike-preserved : goal.alike-preserved
alike-preserved g c =
    let i = c.alike.invariant in
    let next = c.in-Some.ensures.next in
    let t = c.taken-next.ensures in
    let grows = next.read.grows in
    let within = next.read.within in
    record {
      few = omega (arith, next.step.next, t.place.1);
      onward = (omega (arith, i.onward, grows, t.place.0), omega (arith, i.onward, t.count));
      starts = omega (arith, i.starts, t.starts);
      within = (omega (arith, t.start.1, t.place.0, grows), omega (arith, t.place.0, within), omega (arith, t.count, i.room, c.alike-test.true, c.taken-next.auto.out));
      room = omega (arith, t.count, t.place.0, grows, i.room, c.taken-next.auto.out);
      inside = i.inside;
      len = c.taken-next.auto.out ∙ i.len;
      reads = λ letter met start old r.
          t.reads letter c.args.text.now start old (record { next = next; told = c.in-Some.ensures.told letter met }) (i.reads letter met start old r);
    }
