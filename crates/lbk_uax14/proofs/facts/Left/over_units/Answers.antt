-- The last unit is known, since some cell stands on the left, as far as the rules ask for it.
use Rattle.std.proofs.Common.{◌∷◌, sym, ap, ◌∙◌}
use Rattle.lbk_uax14.specs.Chain.{from_11}
use Rattle.lbk_uax14.specs.Classes.{hard}
use Rattle.lbk_uax14.specs.Units.{units, units_after}
use Rattle.lbk_uax14.proofs.AskedLemmas.{from_11-asked}
use Rattle.lbk_uax14.proofs.FactsLemmas.{Sees-facts}
use Rattle.lbk_uax14.proofs.facts.Left.over_units.Goals as goal

pub returns : goal.returns
returns c = λ cell side more e closes.
    let seen = Sees-facts cell side c.args.self e in
    let profile = c.args.profile in
    let last = seen.0 in
    let rest = seen.1 in
    let after = units_after (hard c.args.right.class) more in
    c.from_11.ensures rest after seen.4 closes
    ∙ ap (λ u. from_11 profile (u ∷ rest) (c.unit.result ∷ after)) (sym seen.3)
    ∙ from_11-asked profile last rest (c.unit.result ∷ after)
    ∙ ap (λ u. from_11 profile (last ∷ rest) (u ∷ after)) c.unit.ensures
    ∙ ap (λ u. from_11 profile u (units (c.args.right ∷ more))) (sym seen.2)
