use Rattle.std.proofs.Common.{◌-◌, ◌*◌, ◌/◌, ◌<◌, ◌⊎◌, arith, ap, rules, subst, sym}
use Rattle.std.proofs.lemmas.Grind.{common_steps}
use Rattle.lbk_chunks.proofs.StartLemmas.{is-early, too-early}
use Rattle.lbk_chunks.proofs.chunking.start_from.Goals as goal

pub returns-clause-none : goal.returns-clause-none
returns-clause-none c = λ last next cut same some after before.
    let start = c.args.here.now.start in
    let overlap = c.args.limits.now.overlap in
    let half = c.saturating_sub-half.result / 2 in
    too-early c.args.limits.now c.args.here.now last next cut
    (subst (λ n. (overlap < n - cut.at) ⊎ (n - start < 2 * (n - cut.at))) (sym same)
    (is-early start c.args.end overlap half c.min-twice.result cut.at (ap (λ n. n / 2) c.saturating_sub-half.ensures) (first_of (omega (arith, c.min-twice.ensures), search rules, grind (arith, common_steps))) after
    (omega (arith, before, c.saturating_sub.ensures, c.saturating_sub-from.ensures))))
