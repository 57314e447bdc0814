use Rattle.std.proofs.Common.{◌≡◌, ◌-◌, ◌/◌, ◌%◌, ◌++◌, decimal, sym, ap, ap₂, subst, ◌∙◌, arith}
use Rattle.std.proofs.lemmas.List.{length-take}
use Rattle.lbk_passage.specs.Placing.{Placed, four_digits}
use Rattle.lbk_passage.proofs.Places.{Placed-then, decimal-four}
use Rattle.lbk_passage.proofs.lines.offsets.Offsets.place_known.Goals as goal

pub returns : goal.returns
returns c =
    let self = c.args.self.now in
    let offset = c.args.offset in
    let high : self.base / 10000 ≡ offset / 10000 = omega (arith, self.range.0, c.requires.known.0, c.requires.known.1) in
    let low : offset - self.base ≡ offset % 10000 = omega (arith, self.range.0, c.requires.known.0, c.requires.known.1) in
    let whole : decimal (self.base / 10000) ++ four_digits (offset - self.base) ≡ decimal offset =
    ap₂ (λ h l. decimal h ++ four_digits l) high low
    ∙ sym (decimal-four offset (omega (arith, self.range.0, self.range.1, c.requires.known.0)) (omega (arith, c.requires.known.1, self.range.2))) in
    record {
      placed = subst (λ t. Placed c.args.buf.now c.place_four.new.buf c.args.at t c.place_four.result)
          (ap (λ l. l ++ four_digits (offset - self.base)) self.kept.0 ∙ whole)
          (Placed-then c.place_front-next.ensures c.place_four.ensures);
      short = omega (arith, c.place_four.ensures.moved, c.place_front-next.ensures.moved, length-take self.digits.len self.digits.bytes, self.kept.1);
    }
