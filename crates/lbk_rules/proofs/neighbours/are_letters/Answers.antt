use Rattle.std.proofs.Common.{◌≡◌, ◌+◌, suc, true, refl, sym, subst, ◌∙◌, arith}
use lib.Utf8.{low_scalar}
use Rattle.lbk_rules.specs.Neighbours.{are_letters}
use Rattle.lbk_rules.proofs.NeighboursLemmas.{letter-missing, letter-more}
use Rattle.lbk_rules.proofs.neighbours.are_letters.Goals as goal

pub loop-more-init : goal.loop-more-init
unfolding are_letters
loop-more-init g c = refl

pub returns-then-kind_at-ne-LETTER : goal.returns-then-kind_at-ne-LETTER
returns-then-kind_at-ne-LETTER g c = letter-missing (g.K.KindSource.kinds_of c.args.kinds.now) c.args.from 64 c.loop-more.more (omega arith) (λ is. c.if-kind_at-ne-LETTER.true (c.kind_at.ensures ∙ is))

pub loop-more-preserved : goal.loop-more-preserved
loop-more-preserved g c =
    let next : suc c.loop-more.more ≡ c.loop-more.more + 1 = omega arith in
    subst (λ n. are_letters (g.K.KindSource.kinds_of c.args.kinds.now) c.args.from n ≡ true) next
    (letter-more (g.K.KindSource.kinds_of c.args.kinds.now) c.args.from c.loop-more.more c.loop-more.invariant (sym c.kind_at.ensures ∙ c.if-kind_at-ne-LETTER.false))

pub kind_at-requires : goal.kind_at-requires
kind_at-requires g c = low_scalar (c.args.from + c.loop-more.more) (omega arith)
