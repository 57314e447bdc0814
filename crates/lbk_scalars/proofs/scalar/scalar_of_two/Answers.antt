use Rattle.std.proofs.Common.{ℕ, length, slice_index, arith}
use Rattle.std.proofs.lemmas.Bool.Decides.{nat_tests}
use Rattle.lbk_scalars.proofs.StandLemmas.{shape-two}
use Rattle.lbk_scalars.proofs.scalar.scalar_of_two.Goals as goal
use Rattle.lbk_scalars.proofs.scalar.scalar_of_two.Goals.{then-first-lt194-via-then-first-lt194, then-first-lt194-via-else-first-lt194+then-first-gt223, then-first-lt194-via-else-first-lt194+else-first-gt223+then-not-is_continuation}

pub returns-then-first-lt194-clause-none : goal.returns-then-first-lt194-clause-none
returns-then-first-lt194-clause-none c _ code is =
    let bytes = c.args.bytes.now in
    let at = λ (k : ℕ). slice_index bytes k in
    let shape = shape-two (length bytes) (at 0) (at 1) (at 2) (at 3) code is in
    elim c.then-first-lt194.branch [
      | then-first-lt194-via-then-first-lt194 w ↦ omega (arith, shape.0, w.if-first-lt194.true)
      | then-first-lt194-via-else-first-lt194+then-first-gt223 w ↦ omega (arith, shape.1, w.if-first-gt223.true)
      | then-first-lt194-via-else-first-lt194+else-first-gt223+then-not-is_continuation w ↦
          grind (arith, shape.2, w.is_continuation.ensures, w.if-not-is_continuation.true)
    ]
