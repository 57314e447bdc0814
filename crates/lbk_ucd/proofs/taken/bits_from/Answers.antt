use Rattle.std.proofs.Common.{◌<◌, ◌≤◌, ◌+◌, ◌-◌, ◌*◌, sym, ◌∙◌, ⊎_elim, arith}
use Rattle.std.proofs.lemmas.Bool.{cases_lt, le-leb, lt-leb}
use Rattle.lbk_ucd.proofs.TakenLemmas.{all-set}
use Rattle.lbk_ucd.proofs.taken.bits_from.Goals as goal

pub returns-then-first-start : goal.returns-then-first-start
returns-then-first-start c = λ i few. all-set i few ∙ sym (le-leb c.args.first (64 * c.args.word + i) (omega arith))

pub returns : goal.returns
returns c = λ i few.
    ⊎_elim
    (λ (before : i < c.args.first - 64 * c.args.word). c.kept_from.ensures.none i before ∙ sym (lt-leb c.args.first (64 * c.args.word + i) (omega arith)))
    (λ (after : c.args.first - 64 * c.args.word ≤ i).
    c.kept_from.ensures.same i after few ∙ all-set i few ∙ sym (le-leb c.args.first (64 * c.args.word + i) (omega arith)))
    (cases_lt i (c.args.first - 64 * c.args.word))
