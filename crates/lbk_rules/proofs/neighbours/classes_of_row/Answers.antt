use Rattle.std.proofs.Common.{◌<◌, ◌≢◌, ◌+◌, ◌*◌, length, arith, length-set, get_or-set_other, get_or-set_same, below_more, ap₂, ◌∙◌}
use Rattle.lbk_rules.proofs.neighbours.classes_of_row.Goals as goal

pub loop-place-preserved : goal.loop-place-preserved
loop-place-preserved g c =
    let l = c.loop-place in
    let made = c.class_of_byte.result + 16 * c.class_of_byte-in-loop-place.result in
    record {
      whole = simp length-set l.invariant.whole;
      filled = below_more _ _
          (λ k below. let ne : k ≢ l.place = omega arith in get_or-set_other l.classes l.place k made 0 ne ∙ l.invariant.filled k below)
          (let there : l.place < length l.classes = omega (arith, l.invariant.whole) in
          get_or-set_same l.classes l.place made 0 there
          ∙ ap₂ (λ a b. a + 16 * b) c.class_of_byte.ensures.class c.class_of_byte-in-loop-place.ensures.class);
    }
