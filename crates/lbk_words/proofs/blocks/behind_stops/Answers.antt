use Rattle.std.proofs.Common.{◌≡◌, ◌<◌, ◌≤◌, true, false, sym, ◌∙◌, ⊎_elim, arith}
use Rattle.std.proofs.lemmas.Bool.{cases_lt}
use Rattle.lbk_words.proofs.blocks.behind_stops.Goals as goal

pub returns : goal.returns
returns c =
    let first = c.first_set.result in
    let stop = c.args.stop in (
      ⊎_elim (λ (after : stop < first). after)
          (λ (most : first ≤ stop).
          absurd (let e : true ≡ false = sym (c.first_set.ensures.lowest.set (omega (arith, c.if-others-eq0.false))) ∙ c.kept_from-others.ensures.none first (omega arith) in let never : ⊥ = cc in never))
          (cases_lt stop first),
      omega (arith, c.first_set.ensures.within),
    )
