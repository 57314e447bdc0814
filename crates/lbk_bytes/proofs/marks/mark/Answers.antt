use Rattle.std.proofs.Common.{◌*◌, ◌/◌, ◌%◌, ◌^◌, get_or, set, ap, ◌∙◌}
use Rattle.std.specs.Int.Bits.{bit_or}
use Rattle.lbk_bytes.specs.Marks.{is_marked}
use Rattle.lbk_bytes.proofs.MarkLemmas.{marked-one}
use Rattle.lbk_bytes.proofs.marks.mark.Goals as goal

pub returns : goal.returns
returns c = λ i.
    let words = c.args.words.now in
    let index = c.args.index in
    ap (λ n. is_marked (set words (index / 64) (bit_or (get_or words (index / 64) 0) (n * 2 ^ (index % 64) % 2 ^ 64))) i) c.from.ensures
    ∙ marked-one words index i c.args.is_set c.requires
