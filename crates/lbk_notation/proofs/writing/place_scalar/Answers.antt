use Rattle.std.proofs.Common.{◌≡◌, ◌+◌, ◌∷◌, [], ◌++◌, get_or, length, take, ap, subst, ◌∙◌, arith, rules}
use Rattle.std.proofs.lemmas.List.{length-take}
use Rattle.lbk_passage.specs.Placing.{Placed}
use Rattle.lbk_notation.specs.Written.{token}
use Rattle.lbk_notation.proofs.ScalarWriting.{token_four, with_sign}
use Rattle.lbk_notation.proofs.writing.place_scalar.Goals as goal

pub returns : goal.returns
returns c =
    let sign = c.sign_of-sign.result.bytes in
    let n = c.sign_of-sign.result.len in
    let d = c.four_digits.result in
    let code = c.from-code.result in
    let same : code ≡ c.args.scalar = cc in
    let wide : length sign ≡ 2 = search rules in
    let front = 32 ∷ get_or d 0 0 ∷ get_or d 1 0 ∷ get_or d 2 0 ∷ get_or d 3 0 ∷ 32 ∷ [] in
    let bytes = front ++ (get_or sign 0 0 ∷ get_or sign 1 0 ∷ []) in
    let digits = token_four code d (omega (arith, c.if-code-ge65536.false)) c.four_digits.ensures in
    record {
      placed = subst (λ t. Placed c.args.buf.now c.place_front.new.buf c.args.at t c.place_front.result)
          (with_sign front sign [] n wide c.sign_of-sign.ensures.few
          ∙ ap (λ t. 32 ∷ (t ++ (32 ∷ take n sign))) digits
          ∙ ap (λ x. 32 ∷ (token x ++ (32 ∷ take n sign))) same
          ∙ ap (λ m. 32 ∷ (token c.args.scalar ++ (32 ∷ m))) c.sign_of-sign.ensures.bytes)
          c.place_front.ensures;
      short = omega (arith, c.place_front.ensures.moved, length-take (6 + n) bytes, c.sign_of-sign.ensures.few);
    }
