use Rattle.std.proofs.Common.{sym, ap, ap₂, ◌∙◌, refl, inl, inr, arith}
use Rattle.std.proofs.lemmas.Bool.{false≢true}
use Rattle.lbk_rules.specs.declared.Cell.{Cell}
use Rattle.lbk_rules.specs.Ends.{ends_between}
use Rattle.lbk_rules.specs.Normal.{normal}
use Rattle.lbk_units.specs.Units.{pieces_of_utf16}
use Rattle.lbk_bytes.proofs.UnitLemmas.{front-at}
use Rattle.lbk_streams.proofs.PairLemmas.{begins-apart, none-in-pair, safe-inside, told-by}
use Rattle.lbk_streams.proofs.utf16_cuts.may_begin.Goals as goal

pub returns-then-place-eq0-clause-begins : goal.returns-then-place-eq0-clause-begins
returns-then-place-eq0-clause-begins g c = λ _. begins-apart c.args.text.now c.args.place (λ some. absurd (omega arith))

pub returns-then-place-eq0-clause-safe : goal.returns-then-place-eq0-clause-safe
returns-then-place-eq0-clause-safe g c = λ cell are_kinds. (λ _. inl c.if-place-eq0.true, λ _. refl)

pub returns-then-is_pair-clause-begins : goal.returns-then-is_pair-clause-begins
returns-then-is_pair-clause-begins g c = λ no. absurd (false≢true no)

pub returns-then-is_pair-clause-safe : goal.returns-then-is_pair-clause-safe
returns-then-is_pair-clause-safe g c = λ cell are_kinds.
    let text = c.args.text.now in
    let some = c.if-place-eq0.false in
    let pair = sym c.is_pair.ensures ∙ c.if-is_pair.true in
    (λ no. absurd (false≢true no), λ safe. absurd (none-in-pair text c.args.place (omega arith) c.requires pair (safe-inside cell text c.args.place (omega arith) c.requires safe).0))

pub returns-clause-begins : goal.returns-clause-begins
returns-clause-begins g c = λ _. begins-apart c.args.text.now c.args.place (λ some. sym c.is_pair.ensures ∙ c.if-is_pair.false)

pub returns-clause-safe : goal.returns-clause-safe
unfolding normal
returns-clause-safe g c = λ cell are_kinds.
    let text = c.args.text.now in
    let place = c.args.place in
    let front = front-at pieces_of_utf16 text place c.front-next.result c.requires c.front-next.ensures in
    let classes = ap₂ ends_between (ap (λ (x : Cell). x.class) (c.cell_by_kind.ensures cell are_kinds)) (ap (λ (x : Cell). x.class) (c.cell_by_kind-2.ensures cell are_kinds)) in
    let told = told-by cell text place c.scalar_before-last.result c.front-next.result c.scalar_before-last.ensures front in
    let is = c.must_end.ensures ∙ classes ∙ sym told in (
      λ ends. inr (inr (begins-apart text place (λ some. sym c.is_pair.ensures ∙ c.if-is_pair.false), sym is ∙ ends)),
      λ safe. is ∙ (safe-inside cell text place (omega arith) c.requires safe).1,
    )
