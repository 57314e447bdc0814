use Rattle.std.proofs.Common.{◌+◌, sym, ap, subst, ◌∙◌}
use Rattle.std.specs.Int.{from_bool}
use Rattle.std.proofs.Math.ListN.{set}
use Rattle.lbk_words.specs.Filling.{IsFilled}
use Rattle.lbk_words.proofs.StepLemmas.{filling-ended}
use Rattle.lbk_words.proofs.parts.ended.Goals as goal

pub returns-clause-filled : goal.returns-clause-filled
returns-clause-filled c = λ text start f past.
    let part = c.args.part in
    subst (λ n. IsFilled text start part.at (part.filled.count + n) (set c.args.out.now part.filled.count (record { start = part.filled.at; end = part.at })))
    (sym (c.from.ensures ∙ ap from_bool c.is_word.ensures))
    (filling-ended text start part c.args.out.now f c.requires.0 past)
