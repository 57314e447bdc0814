use Rattle.std.proofs.Common.{◌∙◌}
use Rattle.lbk_masks.specs.Bits.{is_marked}
use Rattle.lbk_ucd.proofs.TakenLemmas.{joined-inside, joined-outside}
use Rattle.lbk_ucd.proofs.taken.mark_all.Goals as goal

pub loop-word-preserved : goal.loop-word-preserved
loop-word-preserved c =
    let l = c.loop-word in
    let first = c.args.first in
    let last = c.args.last in
    let bits = c.bits_within.result in
    record {
      inside = λ k low high near.
          c.join.ensures k
          ∙ joined-inside (is_marked l.words k) l.word first last bits k c.bits_within.ensures low high (λ less. l.invariant.inside k low high less) near;
      outside = λ k out. c.join.ensures k ∙ joined-outside (is_marked l.words k) l.word first last bits k c.bits_within.ensures out ∙ l.invariant.outside k out;
    }
