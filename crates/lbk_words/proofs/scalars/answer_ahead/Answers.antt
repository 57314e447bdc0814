use Rattle.std.proofs.Common.{◌≡◌, ◌<◌, Bool, ℕ, true, false, cond, slice_index, refl, sym, ap, subst, ◌∙◌, arith}
use Rattle.ucd_breaks.specs.WordBreak.{word_break}
use Rattle.unicode_segmentation.specs.Word.{is_ignored, significant, value_at}
use Rattle.unicode_segmentation.proofs.WordLemmas.{significant-ignored, significant-kept}
use Rattle.lbk_words.specs.declared.step_table.TheConstants.{ANSWERS}
use Rattle.lbk_words.specs.Rows.{answer_number}
use Rattle.lbk_words.specs.Words.{scalars_on}
use Rattle.lbk_words.proofs.KindTrie.{IsKind, is-kind}
use Rattle.lbk_words.proofs.RowLemmas.{answer-at, few-answers}
use Rattle.lbk_words.proofs.WalkLemmas.{scalars-end, scalars-next}
use Rattle.lbk_words.proofs.scalars.answer_ahead.Goals as goal

-- an answer that is not 4 is that of a value that counts
counts : (ignored : Bool) (answer other : ℕ) → answer ≡ cond ignored 4 other → ((answer ≡ 4) → ⊥) → (ignored ≡ false) × (answer ≡ other)
counts true answer other is apart = absurd (apart is)
counts false answer other is apart = (refl, is)

passes : (ignored : Bool) (answer other : ℕ) → answer ≡ cond ignored 4 other → answer ≡ 4 → other < 4 → ignored ≡ true
passes true answer other is four few = refl
passes false answer other is four few = absurd (omega arith)

pub returns-then-answer-ne-PASSED_OVER-clause-number : goal.returns-then-answer-ne-PASSED_OVER-clause-number
returns-then-answer-ne-PASSED_OVER-clause-number c =
    let text = c.args.text.now in
    let s = c.scalar_at-scalar.result in
    let is : IsKind s.code c.kind_of.result = subst (IsKind s.code) (sym c.kind_of.ensures.kind) (is-kind s.code s.few) in
    let kept = counts (is_ignored (word_break s.code)) (slice_index ANSWERS c.kind_of.result) (answer_number (word_break s.code)) (answer-at s.code c.kind_of.result is) c.if-answer-ne-PASSED_OVER.true in
    let next = scalars-next text c.loop-at.at s.code s.end c.scalar_at-scalar.ensures in
    kept.1
    ∙ sym (ap (λ values. answer_number (value_at values 0)) (c.loop-at.invariant ∙ ap significant next ∙ significant-kept s.code (scalars_on text s.end) kept.0))

pub returns-then-answer-ne-PASSED_OVER-clause-few : goal.returns-then-answer-ne-PASSED_OVER-clause-few
returns-then-answer-ne-PASSED_OVER-clause-few c =
    let s = c.scalar_at-scalar.result in
    let is : IsKind s.code c.kind_of.result = subst (IsKind s.code) (sym c.kind_of.ensures.kind) (is-kind s.code s.few) in
    let kept = counts (is_ignored (word_break s.code)) (slice_index ANSWERS c.kind_of.result) (answer_number (word_break s.code)) (answer-at s.code c.kind_of.result is) c.if-answer-ne-PASSED_OVER.true in
    subst (λ n. n < 4) (sym kept.1) (few-answers (word_break s.code))

pub loop-at-preserved : goal.loop-at-preserved
loop-at-preserved c =
    let text = c.args.text.now in
    let s = c.scalar_at-scalar.result in
    let is : IsKind s.code c.kind_of.result = subst (IsKind s.code) (sym c.kind_of.ensures.kind) (is-kind s.code s.few) in
    let ignored = passes (is_ignored (word_break s.code)) (slice_index ANSWERS c.kind_of.result) (answer_number (word_break s.code)) (answer-at s.code c.kind_of.result is)
    c.if-answer-ne-PASSED_OVER.false (few-answers (word_break s.code)) in
    let next = scalars-next text c.loop-at.at s.code s.end c.scalar_at-scalar.ensures in
    c.loop-at.invariant ∙ ap significant next ∙ significant-ignored s.code (scalars_on text s.end) ignored

pub returns-clause-number : goal.returns-clause-number
unfolding significant
returns-clause-number c =
    sym (ap (λ values. answer_number (value_at values 0)) (c.loop-at.invariant ∙ ap significant (scalars-end c.args.text.now c.loop-at.at c.loop-at-test.false)))
