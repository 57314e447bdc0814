use Rattle.std.proofs.Common.{◌≡◌, ◌+◌, ◌-◌, subst, arith}
use Rattle.lbk_bytes.specs.declared.blocks.BlockState.{BlockState}
use Rattle.lbk_bytes.specs.Blocks.{Rests}
use Rattle.lbk_bytes.proofs.BlockBeginLemmas.{is-block}
use Rattle.lbk_bytes.proofs.BlockLemmas.{are-left}
use Rattle.lbk_bytes.proofs.BlockOrderLemmas.{ahead-begins}
use Rattle.lbk_bytes.proofs.BlockScalarLemmas.{arrive, end-low, rest-row}
use Rattle.lbk_bytes.proofs.blocks.take_masked.Goals as goal

pub finish-requires-clause-place : goal.finish-requires-clause-place
finish-requires-clause-place g c =
    let taken = c.taken_from-taken.ensures in
    (omega arith, omega arith, taken.inside c.args.text.now c.args.at (omega arith) c.requires.place.7, taken.within.1, omega arith, c.requires.place.6)

-- no break is left but from here on, in the bytes that are taken
pub finish-requires-clause-ahead : goal.finish-requires-clause-ahead
finish-requires-clause-ahead g c =
    let here = c.args.here in
    let at = c.args.at in
    let begin = here.at - at in
    let is_at : here.at ≡ at + begin = omega arith in
    let taken = c.taken_from-taken in
    ahead-begins at begin taken.result c.args.marks.standing c.kept_from.result (record { count = here.count; past = here.at; left = c.kept_up_to.result })
    taken.ensures.within.0 taken.ensures.within.1 is_at c.kept_from.ensures c.kept_up_to.ensures

pub returns-clause-reached : goal.returns-clause-reached
returns-clause-reached g c = λ profile cell more all swift are_kinds told are_marks start.
    let text = c.args.text.now in
    let pairs = g.K.KindSource.pairs_of c.args.kinds.now in
    let here = c.args.here in
    let at = c.args.at in
    let begin = here.at - at in
    let is_at : here.at ≡ at + begin = omega arith in
    let taken = c.taken_from-taken in
    let far = taken.ensures.within in
    let inside = taken.ensures.inside text at (omega arith) c.requires.place.7 in
    let rests : Rests pairs here text = subst (λ p. Rests p here text) c.pairs.ensures (c.is_told_behind.ensures c.if-not-is_told_behind.false) in
    let block = is-block profile cell c.args.steps.now (g.K.KindSource.kinds_of c.args.kinds.now) pairs text at begin taken.result c.args.marks here swift are_kinds told (λ i. (c.type_inv.text i).fits)
    are_marks rests is_at far.0 far.1 inside start.knows.0 taken.ensures.told taken.ensures.stops in
    let marked : BlockState = record { count = here.count; past = here.at; left = c.kept_up_to.result } in
    let left = are-left pairs text at begin taken.result c.args.marks.standing c.kept_from.result marked far.1 inside far.0 is_at c.kept_from.ensures c.kept_up_to.ensures are_marks.standing in
    c.finish.ensures.reached profile cell more all begin block left
    (arrive profile cell text more all pairs c.args.out.now here.count here.row here.at here.at (rest-row pairs here text c.requires.place.1 rests) (end-low text here.at rests.below) start)
