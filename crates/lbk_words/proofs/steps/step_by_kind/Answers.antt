use Rattle.std.proofs.Common.{◌≡◌, false, sym, ap, subst, ◌∙◌}
use Rattle.std.proofs.lemmas.Bool.{not-true}
use Rattle.unicode_segmentation.specs.Word.{significant, value_at}
use Rattle.lbk_words.specs.Rows.{IsStep, step_number, told}
use Rattle.lbk_words.specs.Words.{scalars_on}
use Rattle.lbk_words.proofs.KindTrie.{is-of-kind}
use Rattle.lbk_words.proofs.RowLemmas.{few-answers, step-asked, step-unasked}
use Rattle.lbk_words.proofs.steps.step_by_kind.Goals as goal

pub returns-then-not-step : goal.returns-then-not-step
returns-then-not-step c = λ code is.
    let far = value_at (significant (scalars_on c.args.text.now c.args.end)) 0 in
    let quiet : (told (step_number 0 c.args.row c.args.kind)).asks ≡ false = ap (λ s. s.asks) (sym c.step_at-step.ensures) ∙ not-true c.step_at-step.result.asks c.if-not-step.true in
    subst (IsStep c.args.row code far) (sym c.step_at-step.ensures) (step-unasked c.args.row code c.args.kind far c.requires.0 (is-of-kind code c.args.kind is) quiet)

pub returns : goal.returns
returns c = λ code is.
    let far = value_at (significant (scalars_on c.args.text.now c.args.end)) 0 in
    subst (IsStep c.args.row code far) (sym (c.step_at.ensures ∙ ap (λ a. told (step_number a c.args.row c.args.kind)) c.answer_ahead.ensures.number))
    (step-asked c.args.row code c.args.kind far c.requires.0 (is-of-kind code c.args.kind is) (few-answers far))
