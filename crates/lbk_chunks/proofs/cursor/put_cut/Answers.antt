use Rattle.std.proofs.Common.{inl, inr, arith}
use Rattle.lbk_chunks.proofs.CursorLemmas.{skip-break, take-cut, within-more}
use Rattle.lbk_chunks.proofs.cursor.put_cut.Goals as goal
use Rattle.lbk_chunks.proofs.cursor.put_cut.Goals.{then-here-eq0-via-then-here-eq0, then-here-eq0-via-else-here-eq0+then-found-here}

pub returns-then-here-eq0-clause-among : goal.returns-then-here-eq0-clause-among
returns-then-here-eq0-clause-among c = λ text cuts first rest words shown a none past.
    take-cut text cuts first rest c.args.found c.args.here words c.args.out.now shown a (omega arith) none past
    (elim c.then-here-eq0.branch [ then-here-eq0-via-then-here-eq0 w ↦ inl w.if-here-eq0.true | then-here-eq0-via-else-here-eq0+then-found-here w ↦ inr w.if-found-here.true ])

pub returns-then-here-eq0-clause-within : goal.returns-then-here-eq0-clause-within
returns-then-here-eq0-clause-within c = λ size below within. within-more size c.args.here.count c.args.out.now _ (omega arith) below within

pub returns-clause-among : goal.returns-clause-among
returns-clause-among c = λ text cuts first rest words shown a none past.
    skip-break text cuts first rest c.args.found c.args.here words c.args.out.now shown a
    past c.if-here-eq0.false (omega (arith, c.if-found-here.false))
