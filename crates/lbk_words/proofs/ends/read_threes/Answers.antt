use Rattle.std.proofs.Common.{ℕ, ◌≡◌, List, length, refl, sym, ap, subst, ◌∙◌, arith}
use Rattle.lbk_words.specs.declared.ends.Reading.{Reading}
use Rattle.lbk_words.specs.Ends.{ReadsOn}
use Rattle.lbk_words.proofs.PartLemmas.{reading-joined, reads-more}
use Rattle.lbk_words.proofs.ends.read_threes.Goals.{then-here-stop+in-Some+then-here-eq-LETTER_ROW, then-here-stop+in-Some+else-here-eq-LETTER_ROW, else-here-stop}
use Rattle.lbk_words.proofs.ends.read_threes.Goals as goal

pub returns : goal.returns
returns g c = elim c.if-here-stop.branch [
  | then-here-stop+in-Some+then-here-eq-LETTER_ROW w ↦
      let t = w.taken-here.ensures in
      let next = w.in-Some.ensures.next in
      let there = w.read_joined-here.result in
      let j = w.read_joined-here.ensures in
      on there w.taken-here.new.out w.here-is w.out-is w.taken-here.auto.out (record {
        reads = λ letter met start old r.
            let first = t.reads letter text start old (record { next = next; told = w.in-Some.ensures.told letter met }) r in
            reading-joined g.S.PartSlot.made letter text start old w.taken-here.result there w.taken-here.new.out first j.same (j.reads letter met first.part first.noted);
        onward = (omega (arith, t.place.0, next.read.grows, j.place.0), omega (arith, t.count, j.same));
        starts = omega (arith, t.starts, j.same);
        within = (
          omega (arith, t.start.1, t.place.0, next.read.grows, j.place.0, j.same),
          j.place.1,
          omega (arith, t.count, j.same, c.stop_of-stop.ensures.room, w.if-here-stop.true),
        );
        row = j.place.2;
      })
  | then-here-stop+in-Some+else-here-eq-LETTER_ROW w ↦
      let t = w.taken-here.ensures in
      let next = w.in-Some.ensures.next in
      on w.taken-here.result w.taken-here.new.out w.here-is w.out-is w.taken-here.auto.out (record {
        reads = λ letter met start old r. t.reads letter text start old (record { next = next; told = w.in-Some.ensures.told letter met }) r;
        onward = (omega (arith, t.place.0, next.read.grows), omega (arith, t.count));
        starts = omega (arith, t.starts);
        within = (
          omega (arith, t.start.1, t.place.0, next.read.grows),
          omega (arith, t.place.0, next.read.within),
          omega (arith, t.count, c.stop_of-stop.ensures.room, w.if-here-stop.true),
        );
        row = omega (arith, next.step.next, t.place.1);
      })
  | else-here-stop w ↦
      subst (λ h. ReadsOn g.S.PartSlot.made c.args.near.now text h c.args.out.now c.read_up_to.result c.read_up_to.new.out) w.here-is
      (subst (λ l. ReadsOn g.S.PartSlot.made c.args.near.now text c.if-here-stop.here l c.read_up_to.result c.read_up_to.new.out) w.out-is c.read_up_to.ensures)
]
  where
    text : List ℕ
    text = c.args.text.now

    on : (here : Reading) (some : List g.row.S.Denot) → c.if-here-stop.here ≡ here → c.if-here-stop.out ≡ some → length some ≡ length c.args.out.now
        → ReadsOn g.S.PartSlot.made c.args.near.now text c.args.from c.args.out.now here some
        → ReadsOn g.S.PartSlot.made c.args.near.now text c.args.from c.args.out.now c.read_up_to.result c.read_up_to.new.out
    on here some is same len before =
        reads-more g.S.PartSlot.made c.args.near.now text c.args.from here c.read_up_to.result c.args.out.now some c.read_up_to.new.out len before
        (subst (λ h. ReadsOn g.S.PartSlot.made c.args.near.now text h some c.read_up_to.result c.read_up_to.new.out) is
        (subst (λ l. ReadsOn g.S.PartSlot.made c.args.near.now text c.if-here-stop.here l c.read_up_to.result c.read_up_to.new.out) same c.read_up_to.ensures))
