use Rattle.std.proofs.Common.{◌≡◌, ◌+◌, ◌∷◌, [], ◌++◌, get_or, length, take, ap, subst, ◌∙◌, arith, rules}
use Rattle.std.proofs.lemmas.List.{length-take}
use Rattle.lbk_passage.specs.Placing.{Placed}
use Rattle.lbk_notation.specs.Written.{token}
use Rattle.lbk_notation.proofs.ScalarWriting.{token_five, token_six, with_sign}
use Rattle.lbk_notation.proofs.writing.place_long.Goals as goal

pub returns-then-code-lt1048576 : goal.returns-then-code-lt1048576
returns-then-code-lt1048576 c =
    let sign = c.sign_of-sign.result.bytes in
    let n = c.sign_of-sign.result.len in
    let d = c.four_digits.result in
    let e = c.two_digits.result in
    let wide : length sign ≡ 2 = search rules in
    let front = 32 ∷ get_or e 1 0 ∷ get_or d 0 0 ∷ get_or d 1 0 ∷ get_or d 2 0 ∷ get_or d 3 0 ∷ 32 ∷ [] in
    let more = 0 ∷ 0 ∷ 0 ∷ 0 ∷ 0 ∷ 0 ∷ 0 ∷ [] in
    let digits = token_five c.args.code d e c.requires.code.0 c.if-code-lt1048576.true c.four_digits.ensures c.two_digits.ensures in
    record {
      placed = subst (λ t. Placed c.args.buf.now c.place_front.new.buf c.args.at t c.place_front.result)
          (with_sign front sign more n wide c.sign_of-sign.ensures.few ∙ ap (λ t. 32 ∷ (t ++ (32 ∷ take n sign))) digits
          ∙ ap (λ m. 32 ∷ (token c.args.code ++ (32 ∷ m))) c.sign_of-sign.ensures.bytes) c.place_front.ensures;
      short = omega (arith, c.place_front.ensures.moved, length-take (7 + n) (front ++ (get_or sign 0 0 ∷ get_or sign 1 0 ∷ more)), c.sign_of-sign.ensures.few);
    }

pub returns : goal.returns
returns c =
    let sign = c.sign_of-sign.result.bytes in
    let n = c.sign_of-sign.result.len in
    let d = c.four_digits.result in
    let e = c.two_digits.result in
    let wide : length sign ≡ 2 = search rules in
    let front = 32 ∷ get_or e 0 0 ∷ get_or e 1 0 ∷ get_or d 0 0 ∷ get_or d 1 0 ∷ get_or d 2 0 ∷ get_or d 3 0 ∷ 32 ∷ [] in
    let more = 0 ∷ 0 ∷ 0 ∷ 0 ∷ 0 ∷ 0 ∷ [] in
    let digits = token_six c.args.code d e c.if-code-lt1048576.false c.four_digits.ensures c.two_digits.ensures in
    record {
      placed = subst (λ t. Placed c.args.buf.now c.place_front-2.new.buf c.args.at t c.place_front-2.result)
          (with_sign front sign more n wide c.sign_of-sign.ensures.few ∙ ap (λ t. 32 ∷ (t ++ (32 ∷ take n sign))) digits
          ∙ ap (λ m. 32 ∷ (token c.args.code ++ (32 ∷ m))) c.sign_of-sign.ensures.bytes) c.place_front-2.ensures;
      short = omega (arith, c.place_front-2.ensures.moved, length-take (8 + n) (front ++ (get_or sign 0 0 ∷ get_or sign 1 0 ∷ more)), c.sign_of-sign.ensures.few);
    }
