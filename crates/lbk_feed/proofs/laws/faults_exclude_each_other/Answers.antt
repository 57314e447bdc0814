use Rattle.std.proofs.Common.{◌≡◌, true, length, ap, ⊎_elim, arith, length-take}
use Rattle.lbk_feed.specs.Text.{longest_text, well_formed_prefix, counted, IsOpen}
use Rattle.lbk_feed.proofs.laws.faults_exclude_each_other.Goals as goal

pub returns : goal.returns
returns c bs ended at ill long = ⊎_elim
    (λ (whole : well_formed_prefix (counted bs) ≡ counted bs). omega (arith, ill.place, ill.follows, ap length whole))
    (λ (cut : IsOpen (counted bs)). ⊎_elim
    (λ (none : ¬ (IsOpen (counted bs))). none cut)
    (λ (last : IsOpen (counted bs) × (counted bs ≡ bs) × (ended ≡ true)). omega (arith, long.over, ap length last.1, length-take longest_text bs))
    ill.why)
    long.text
