use Rattle.std.proofs.Common.{[], ◌∷◌, ◌++◌, ◌<◌, take, refl, sym, subst, ap, ◌∙◌, append-nil, arith}
use Rattle.std.proofs.lemmas.List.{take_more_set}
use Rattle.lbk_words.specs.Ends.{IsNoted, IsNotedStep}
use Rattle.lbk_words.specs.Places.{IsReadAt}
use Rattle.lbk_words.proofs.PartLemmas.{noted-one, reading-ended}
use Rattle.lbk_words.proofs.StepLemmas.{first-in_row}
use Rattle.lbk_words.proofs.ends.fill_parts.Goals as goal

pub scalars-init : goal.scalars-init
scalars-init g c =
    let letter = g.L.Letters.letter_of c.args.letters.now in
    let text = c.args.text.now in
    let at = c.args.from.at in
    let first = c.scalar_at-first in
    let read : IsReadAt text at first.result.code first.result.end =
    subst (λ l. IsReadAt l at first.result.code first.result.end) c.as_bytes-bytes.ensures.value first.ensures in
    let row = c.first_row_of.ensures first.result.code (record { few = first.result.few; is = c.told-told.ensures.told.kind }) in
    record {
      few = row.few;
      within = (read.grows, read.within);
      onward = (omega arith, omega arith);
      count = omega (arith, c.requires.some.0);
      len = refl;
      met = c.told-told.ensures.met;
      reads = record {
        fills = record { ends = []; parts = refl; put = sym (append-nil _) };
        part = first-in_row text at first.result.code first.result.end c.first_row_of.result read row;
        noted = subst (IsNoted letter text at first.result.end) (sym c.told-told.ensures.told.is_letter)
            (noted-one letter text at first.result.code first.result.end read);
      };
    }

pub returns-then-here-out-clause-onward : goal.returns-then-here-out-clause-onward
returns-then-here-out-clause-onward g c =
    let i = c.scalars.invariant in
    let r = c.read_threes-here.ensures in
    let full = c.if-here-out.true in
    let some = c.requires.some in
    let more : c.args.from.count < c.read_threes-here.result.count = omega (arith, full, some, i.len, c.read_threes-here.auto.out) in
    (more, omega (arith, more, i.onward, r.starts))

pub returns-then-here-out-clause-parts : goal.returns-then-here-out-clause-parts
returns-then-here-out-clause-parts g c =
    let letter = g.L.Letters.letter_of c.args.letters.now in
    let i = c.scalars.invariant in
    (c.read_threes-here.ensures.reads letter i.met c.args.from c.args.out.now i.reads).fills

pub returns-then-may_tell-clause-parts : goal.returns-then-may_tell-clause-parts
returns-then-may_tell-clause-parts g c =
    let letter = g.L.Letters.letter_of c.args.letters.now in
    let i = c.scalars.invariant in
    let threes = c.read_threes-here.ensures.reads letter i.met c.args.from c.args.out.now i.reads in
    let noted = subst (λ l. IsNotedStep letter l c.read_threes-here.result.row c.read_threes-here.result.at c.noted_at-noted.result) c.as_bytes-bytes.ensures.value c.noted_at-noted.ensures.noted in
    (c.taken-read.ensures.reads letter c.args.text.now c.args.from c.args.out.now noted threes).fills

pub scalars-preserved : goal.scalars-preserved
scalars-preserved g c =
    let letter = g.L.Letters.letter_of c.args.letters.now in
    let i = c.scalars.invariant in
    let o = c.read_threes-here.ensures in
    let t = c.taken-read.ensures in
    let r = c.read_behind-here.ensures in
    let threes = o.reads letter i.met c.args.from c.args.out.now i.reads in
    let noted = subst (λ l. IsNotedStep letter l c.read_threes-here.result.row c.read_threes-here.result.at c.noted_at-noted.result) c.as_bytes-bytes.ensures.value c.noted_at-noted.ensures.noted in
    let read = t.reads letter c.args.text.now c.args.from c.args.out.now noted threes in
    record {
      few = r.row;
      within = (r.within.0, r.within.1);
      onward = (omega (arith, i.onward, o.onward, t.count, r.onward), omega (arith, i.onward, o.starts, t.starts, r.starts));
      count = omega (arith, r.within.2, c.read_behind-here.auto.out);
      len = c.read_behind-here.auto.out ∙ c.taken-read.auto.out ∙ c.read_threes-here.auto.out ∙ i.len;
      met = c.noted_at-noted.ensures.met;
      reads = r.reads letter c.noted_at-noted.ensures.met c.args.from c.args.out.now read;
    }

pub returns-clause-parts : goal.returns-clause-parts
returns-clause-parts g c =
    let letter = g.L.Letters.letter_of c.args.letters.now in
    let i = c.scalars.invariant in
    let put = c.put.new.self in
    let here = c.read_threes-here.result in
    let out = c.read_threes-here.new.out in
    let threes = c.read_threes-here.ensures.reads letter i.met c.args.from c.args.out.now i.reads in
    reading-ended g.S.PartSlot.made letter c.args.text.now c.args.from c.args.out.now here out _ threes (omega (arith, c.if-here-text.true))
    (take_more_set out here.count put (omega (arith, c.read_threes-here.ensures.within.2, c.read_threes-here.auto.out, c.if-here-out.false)) ∙ ap (λ x. take here.count out ++ x ∷ []) c.put.ensures)

pub scalars-preserved-in-Some : goal.scalars-preserved-in-Some
scalars-preserved-in-Some g c =
    let letter = g.L.Letters.letter_of c.args.letters.now in
    let i = c.scalars.invariant in
    let o = c.read_threes-here.ensures in
    let t = c.taken-here.ensures in
    let next = c.in-Some.ensures.next in
    let threes = o.reads letter i.met c.args.from c.args.out.now i.reads in
    record {
      few = omega (arith, next.step.next, t.place.1);
      within = (omega (arith, t.start.1, t.place.0, next.read.grows), omega (arith, t.place.0, next.read.within));
      onward = (omega (arith, i.onward, o.onward, t.place.0, next.read.grows), omega (arith, i.onward, o.starts, t.starts));
      count = omega (arith, t.count, o.within.2, c.if-here-out.false, c.read_threes-here.auto.out, c.taken-here.auto.out);
      len = c.taken-here.auto.out ∙ c.read_threes-here.auto.out ∙ i.len;
      met = i.met;
      reads = t.reads letter c.args.text.now c.args.from c.args.out.now (record { next = next; told = c.in-Some.ensures.told letter i.met }) threes;
    }
