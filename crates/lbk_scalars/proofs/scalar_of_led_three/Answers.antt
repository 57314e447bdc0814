use Rattle.std.proofs.Common.{ℕ, length, slice_index, arith}
use Rattle.std.proofs.lemmas.Grind.{common_steps}
use Rattle.lbk_scalars.proofs.StandLemmas.{spelled-three}
use Rattle.lbk_scalars.proofs.scalar_of_led_three.Goals as goal

-- src/lib.rt:20:9
pub returns-then-more-gt-MORE_OF_THREE-clause-none :
    goal.returns-then-more-gt-MORE_OF_THREE-clause-none
returns-then-more-gt-MORE_OF_THREE-clause-none c _ code is =
    let bytes = c.args.bytes.now in
    let at = λ (k : ℕ). slice_index bytes k in
    let spelled = spelled-three (length bytes) (at 0) (at 1) (at 2) (at 3) code is in
    omega (arith, spelled, c.joined-spelled.ensures, c.joined.ensures, c.from.ensures, c.if-more-gt-MORE_OF_THREE.true)

-- src/lib.rt:9:1
pub returns-clause-reads : goal.returns-clause-reads
returns-clause-reads c = grind (arith, common_steps)
