use Rattle.std.proofs.Common.{arith}
use Rattle.lbk_words.proofs.ReadLemmas.{any-read}
use Rattle.lbk_words.proofs.scalars.scalar_at.Goals as goal

pub overflow_add-result : goal.overflow_add-result
overflow_add-result c =
    let any = c.any_scalar-scalar in
    let read = any-read c.args.text.now c.args.at any.result.code any.result.size c.requires any.ensures.code any.ensures.size in
    omega (arith, read.within)

pub returns-in_default-scalar_of_few : goal.returns-in_default-scalar_of_few
returns-in_default-scalar_of_few c =
    let any = c.any_scalar-scalar in
    any-read c.args.text.now c.args.at any.result.code any.result.size c.requires any.ensures.code any.ensures.size
