use Rattle.std.proofs.Common.{◌≡◌, ℕ, ◌+◌, ◌-◌, ◌<◌, ◌≤◌, [], ◌∷◌, ◌++◌, true, cond, List, append-nil, get_or, length, take, sym, ap, ◌∙◌, arith}
use Rattle.std.proofs.lemmas.Bool.{false≢true}
use Rattle.std.proofs.lemmas.List.{take_more}
use Rattle.lbk_rules.specs.declared.Verdict.{Verdict}
use Rattle.lbk_rules.specs.Breaks.{is_no}
use Rattle.lbk_passage.specs.declared.passage.Segment.{Segment}
use Rattle.lbk_passage.specs.Cuts.{ending_by}
use Rattle.lbk_passage.specs.Segments.{segment_by}
use Rattle.lbk_passage.proofs.segments.end_last.Goals as goal
use Rattle.lbk_passage.proofs.segments.end_last.Goals.{in-No, in_default}

-- the last of the first `count` segments is taken off
taken_off : (all : List Segment) (count : ℕ) (end : Verdict) → 0 < count → count ≤ length all → is_no end.kind ≡ true
    → (front : List Segment) × (last : Segment) × (take count all ≡ front ++ last ∷ []) × (take (count - 1) all ≡ front ++ ending_by end last)
taken_off all count end some within never =
    let front = take (count - 1) all in
    let none = segment_by 0 0 end in
    let last = get_or all (count - 1) none in
    let more : count ≡ count - 1 + 1 = omega arith in (
      front,
      last,
      ap (λ n. take n all) more ∙ take_more all (count - 1) none (omega arith),
      sym (append-nil front) ∙ ap (λ k. front ++ cond k [] (segment_by last.start last.end end ∷ [])) (sym never),
    )

pub returns-then-matches-clause-put : goal.returns-then-matches-clause-put
returns-then-matches-clause-put c = λ some.
    let s = c.args.segments.now in
    let within = s.within in
    let same = s.items.ok.0 in
    taken_off s.items.items s.count c.args.end some (omega arith)
    (elim c.match-matches.branch [ in-No w ↦ ap is_no w.in-No.is | in_default w ↦ absurd (false≢true (sym w.matches-is ∙ c.if-matches.true)) ])
