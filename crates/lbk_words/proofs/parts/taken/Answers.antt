use Rattle.std.proofs.Common.{◌+◌, cond, sym, subst}
use Rattle.std.proofs.Math.ListN.{set}
use Rattle.lbk_words.specs.Filling.{FillsUpTo}
use Rattle.lbk_words.proofs.StepLemmas.{filling-taken}
use Rattle.lbk_words.proofs.parts.taken.Goals as goal

pub returns-clause-fills : goal.returns-clause-fills
returns-clause-fills c = λ text from old code f read is.
    let part = c.args.part in
    let out = set c.args.out.now part.filled.count (record { start = part.filled.at; end = part.at }) in
    subst (λ begin. FillsUpTo text from old (record { filled = record { count = part.filled.count + c.from.result; at = begin }; at = c.args.end; row = c.args.step.next }) out) (sym c.one_of.ensures)
    (subst (λ n. FillsUpTo text from old (record { filled = record { count = part.filled.count + n; at = cond c.args.step.cuts part.at part.filled.at }; at = c.args.end; row = c.args.step.next }) out) (sym c.from.ensures)
    (filling-taken text from old part c.args.out.now code c.args.end c.args.step f c.requires read is))
