use Rattle.std.proofs.Common.{◌≡◌, ◌≤◌, ◌<◌, ℕ, List, get_or, length, inr, sym, ap, arith, below_more}
use Rattle.std.proofs.lemmas.List.{get_or_default}
use Rattle.std.proofs.lemmas.List.Elements.{Contains-get_or}
use Rattle.lbk_passage.specs.declared.passage.Segment.{Segment}
use Rattle.test_rules_commands.proofs.guide.snippet_end.Goals as goal
use Rattle.test_rules_commands.proofs.guide.snippet_end.Goals.{then-segment-end+then-segment-most, else-segment-end}
use Rattle.test_rules_commands.proofs.guide.snippet_end.Goals.{else-segment-end-via-then-segment-end+else-segment-most}
use Rattle.test_rules_commands.proofs.guide.snippet_end.Goals.{else-segment-end-via-else-segment-end}

-- an element within the list is the same at any default
at_other : (P : ℕ → Type 0) (segments : List Segment) (k : ℕ) (d other : Segment) → k < length segments
    → P (get_or segments k d).end → P (get_or segments k other).end
at_other P segments k d other within here = rw (get_or_default segments k other d within) here

pub loop-segment-preserved : goal.loop-segment-preserved
loop-segment-preserved c =
    let segments = c.args.segments.now in
    let at = c.loop-segment.segment-index in
    let within = c.loop-segment-test.true in
    let kept = c.loop-segment.invariant in
    elim c.if-segment-end.branch [
      | then-segment-end+then-segment-most w ↦ (
        omega arith,
        inr (_, Contains-get_or segments at _ within, sym w.end-is),
        below_more _ _ (λ k lt other le. omega (arith, kept.2 k lt other le))
            (λ other le. omega (arith, at_other (λ n. c.if-segment-end.end ≡ n) segments at _ other within w.end-is)),
      )
      | else-segment-end w ↦ (
        omega arith,
        rw w.end-is kept.1,
        below_more _ _ (λ k lt other le. omega (arith, kept.2 k lt other le))
            (λ other le. elim w.else-segment-end.branch [
              | else-segment-end-via-then-segment-end+else-segment-most w' ↦
                  omega (arith, at_other (λ n. c.args.most < n) segments at _ other within w'.if-segment-most.false)
              | else-segment-end-via-else-segment-end w' ↦
                  omega (arith, at_other (λ n. n ≤ c.loop-segment.end) segments at _ other within w'.if-segment-end.false)
            ]),
      )
    ]
