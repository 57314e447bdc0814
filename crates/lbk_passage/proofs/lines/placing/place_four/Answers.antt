use Rattle.std.proofs.Common.{◌≡◌, ◌+◌, ◌/◌, ◌%◌, ◌∷◌, [], subst, arith}
use Rattle.lbk_passage.specs.Placing.{Placed}
use Rattle.lbk_passage.proofs.Places.{Placed-then}
use Rattle.lbk_passage.proofs.lines.placing.place_four.Goals as goal

pub returns : goal.returns
returns c =
    let n = c.args.number in
    let first : n / 100 / 10 ≡ n / 1000 = omega arith in
    let third : n % 100 / 10 ≡ n / 10 % 10 = omega arith in
    let fourth : n % 100 % 10 ≡ n % 10 = omega arith in
    subst (λ t. Placed c.args.buf.now c.place_pair.new.buf c.args.at t c.place_pair.result)
    (λ i. (48 + first i) ∷ (48 + n / 100 % 10) ∷ (48 + third i) ∷ (48 + fourth i) ∷ [])
    (Placed-then c.place_pair-next.ensures c.place_pair.ensures)
