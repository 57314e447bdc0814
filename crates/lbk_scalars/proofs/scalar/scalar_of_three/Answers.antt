use Rattle.std.proofs.Common.{◌≡◌, ℕ, true, length, slice_index, arith}
use Rattle.std.proofs.lemmas.Bool.Decides.{nat_tests}
use Rattle.bstr.specs.Utf8.{continues}
use Rattle.lbk_scalars.proofs.StandLemmas.{shape-three, spelled-no-surrogate, spelled-three}
use Rattle.lbk_scalars.proofs.scalar.scalar_of_three.Goals as goal
use Rattle.lbk_scalars.proofs.scalar.scalar_of_three.Goals.{then-not-is_continuation-via-then-not-is_continuation, then-not-is_continuation-via-else-not-is_continuation+then-not-is_continuation-2, then-not-is_continuation-via-else-not-is_continuation+else-not-is_continuation-2+then-not-takes_three}

pub returns-then-not-is_continuation-clause-none : goal.returns-then-not-is_continuation-clause-none
returns-then-not-is_continuation-clause-none c _ code is =
    let bytes = c.args.bytes.now in
    let at = λ (k : ℕ). slice_index bytes k in
    let shape = shape-three (length bytes) (at 0) (at 1) (at 2) (at 3) code is in
    let spelled = spelled-three (length bytes) (at 0) (at 1) (at 2) (at 3) code is in
    let other = spelled-no-surrogate (length bytes) (at 0) (at 1) (at 2) (at 3) code is in
    let narrowed = shape.2 in
    let next : continues (at 1) ≡ true = grind (arith, nat_tests, narrowed) in
    elim c.then-not-is_continuation.branch [
      | then-not-is_continuation-via-then-not-is_continuation w ↦
          grind (arith, next, c.is_continuation.ensures, w.if-not-is_continuation.true)
      | then-not-is_continuation-via-else-not-is_continuation+then-not-is_continuation-2 w ↦
          grind (arith, shape.3, w.is_continuation-else-not-is_continuation.ensures, w.if-not-is_continuation-2.true)
      | then-not-is_continuation-via-else-not-is_continuation+else-not-is_continuation-2+then-not-takes_three w ↦
          grind (arith, spelled, other, c.from.ensures, c.joined.ensures, c.joined-spelled.ensures, w.takes_three.ensures, w.if-not-takes_three.true)
    ]
