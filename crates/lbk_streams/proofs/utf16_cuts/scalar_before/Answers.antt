use Rattle.std.proofs.Common.{◌≡◌, ◌+◌, ◌-◌, get_or, sym, ap, ◌∙◌, inl, inr, arith}
use Rattle.lbk_streams.specs.Looking.{is_pair}
use Rattle.lbk_streams.proofs.PairLemmas.{apart-before, last-by}
use Rattle.lbk_streams.proofs.utf16_cuts.scalar_before.Goals.{then-place-gt1+else-is_pair, else-place-gt1}
use Rattle.lbk_streams.proofs.utf16_cuts.scalar_before.Goals as goal

pub returns-then-is_pair : goal.returns-then-is_pair
returns-then-is_pair c =
    let text = c.args.text.now in
    let place = c.args.place in
    let start = place - 2 in
    let next : place - 1 ≡ start + 1 = omega arith in
    let pair = ap (λ n. is_pair (get_or text start 0) (get_or text n 0)) (sym next) ∙ sym c.is_pair.ensures ∙ c.if-is_pair.true in
    last-by text place start c.front.result (omega arith) c.requires.1 (apart-before text start pair) c.front.ensures (inr (omega arith, pair))

pub returns : goal.returns
returns c =
    let text = c.args.text.now in
    let place = c.args.place in
    last-by text place (place - 1) c.front-2.result (omega (arith, c.requires.0)) c.requires.1
    (λ some. elim c.if-place-gt1.branch [
      | then-place-gt1+else-is_pair w ↦
          let two : place - 2 ≡ place - 1 - 1 = omega arith in
          ap (λ n. is_pair (get_or text n 0) (get_or text (place - 1) 0)) (sym two) ∙ sym w.is_pair.ensures ∙ w.if-is_pair.false
      | else-place-gt1 w ↦ absurd (let few = w.if-place-gt1.false in let no : ⊥ = omega arith in no)
    ])
    c.front-2.ensures (inl (omega (arith, c.requires.0)))
