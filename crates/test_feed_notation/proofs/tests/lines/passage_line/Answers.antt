use Rattle.std.proofs.Common.{◌∙◌, length, sym, ap, chars, arith}
use Rattle.std.proofs.lemmas.Str.{Chars-Drains, encodes-chars}
use Rattle.test_feed_notation.proofs.tests.lines.passage_line.Goals as goal

-- as many scalars were counted as the text has
pub push_passage_line-requires : goal.push_passage_line-requires
push_passage_line-requires c =
    let ran = c.count.ensures.ran in
    let all = Chars-Drains (chars c.args.text.now) ran.0 c.chars.result (encodes-chars c.args.text.now c.utf8.text ∙ sym c.chars.ensures.rest) ran.1 in
    omega (arith, c.if-verdicts-count.false, ran.2, ap length all)
