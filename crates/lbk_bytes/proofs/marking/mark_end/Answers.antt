use Rattle.std.proofs.Common.{◌+◌, ◌-◌, ◌==◌, ◌&&◌, ◌||◌, ◌≡◌, ap, ◌∙◌, arith}
use Rattle.std.proofs.lemmas.Bool.{and_right, ne_eqb}
use Rattle.lbk_bytes.specs.Marks.{is_marked, stands_among}
use Rattle.lbk_bytes.proofs.MarkLemmas.{break-among, or-false}
use Rattle.lbk_bytes.proofs.marking.mark_end.Goals as goal
use Rattle.lbk_rules.specs.Rows.{verdict_shown}

pub returns-clause-after : goal.returns-clause-after
returns-clause-after c = λ i past.
    let index = c.args.index in
    let apart : index ≡ i → ⊥ = λ same. omega arith in
    c.mark.ensures i
    ∙ or-false (is_marked c.args.words.now i) (c.shows_break.result && (index == i)) (and_right c.shows_break.result (index == i) (ne_eqb index i apart))

pub returns-clause-marked : goal.returns-clause-marked
returns-clause-marked c = λ profile cell taken from knows some i.
    let index = c.args.index in
    let verdict = verdict_shown c.end_shown-shown.result in
    let is_end = c.end_shown-shown.ensures.ends profile cell taken (from + index) knows some in
    c.mark.ensures i
    ∙ ap (λ n. is_marked c.args.words.now i || (c.shows_break.result && (n == i))) (let e : index ≡ from + index - from = omega arith in e)
    ∙ ap (λ b. is_marked c.args.words.now i || b) (break-among c.shows_break.result from (from + index) i verdict c.shows_break.ensures (omega arith))
    ∙ ap (λ l. is_marked c.args.words.now i || stands_among (from + i) l) is_end
