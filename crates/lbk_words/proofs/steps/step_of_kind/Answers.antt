use Rattle.std.proofs.Common.{sym, ap, subst, ◌∙◌}
use Rattle.lbk_words.specs.Rows.{IsStep}
use Rattle.lbk_words.proofs.KindTrie.{is-of-kind}
use Rattle.lbk_words.proofs.RowLemmas.{step-unasked}
use Rattle.lbk_words.proofs.steps.step_of_kind.Goals as goal

pub returns : goal.returns
returns c = λ quiet code far is.
    subst (IsStep c.args.row code far) (sym c.step_at.ensures)
    (step-unasked c.args.row code c.args.kind far c.requires.0 (is-of-kind code c.args.kind is) (ap (λ s. s.asks) (sym c.step_at.ensures) ∙ quiet))
