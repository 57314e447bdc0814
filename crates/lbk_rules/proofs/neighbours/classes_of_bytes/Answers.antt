use Rattle.std.proofs.Common.{◌<◌, ◌≢◌, ◌∙◌, [], get_or, length, ap, arith, length-set, get_or-set_other, get_or-set_same, below_more}
use Rattle.lbk_rules.proofs.neighbours.classes_of_bytes.Goals as goal

pub loop-row-preserved : goal.loop-row-preserved
loop-row-preserved g c =
    let l = c.loop-row in
    let made = c.classes_of_row.result in
    record {
      whole = simp length-set l.invariant.whole;
      filled = below_more _ _
          (λ k below place few. let ne : k ≢ l.row = omega arith in
          ap (λ r. get_or r place 0) (get_or-set_other l.classes l.row k made [] ne) ∙ l.invariant.filled k below place few)
          (λ place few. let there : l.row < length l.classes = omega (arith, l.invariant.whole) in
          ap (λ r. get_or r place 0) (get_or-set_same l.classes l.row made [] there) ∙ c.classes_of_row.ensures place few);
    }
