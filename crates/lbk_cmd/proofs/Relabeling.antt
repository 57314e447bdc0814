-- What `show` writes of a part, whether another follows.
use Rattle.std.proofs.Common.{◌≡◌, ℕ, ◌+◌, ◌<◌, List, [], ◌∷◌, ◌++◌, map, length, refl, sym, ap, ◌∙◌, append_assoc, append-nil, arith}
use Rattle.std.specs.List.{AllByRecursion}
use Rattle.lbk_rules.specs.declared.Cell.{Cell}
use Rattle.lbk_rules.specs.declared.Kind.TheVariants.{Must}
use Rattle.lbk_rules.specs.declared.Rule.{Rule}
use Rattle.lbk_rules.specs.declared.Rule.TheVariants.{Lb3}
use Rattle.lbk_values.specs.declared.profile.Profile.{Profile}
use Rattle.lbk_rules.specs.Labels.{label_of}
use Rattle.lbk_rules.proofs.JoinLemmas.{end_before_more-must}
use Rattle.lbk_rules.proofs.MarkLemmas.{scalars-ended}
use Rattle.lbk_notation.specs.declared.marks.Form.TheVariants.{Kinds}
use Rattle.lbk_notation.specs.Marked.{mark_of}
use Rattle.lbk_notation.specs.Shown.{passage_marks, written_labels}
use Rattle.lbk_notation.specs.Written.{written_line}
use Rattle.lbk_passage.specs.Joins.{end_before_more, with_last}
use Rattle.lbk_passage.specs.Laws.{EndsOnce}
use Rattle.lbk_passage.specs.Marks.{Marked, ended, marks, scalars_of, text_of}
use Rattle.lbk_passage.specs.Passages.{cut_after, ends_passage, passages}
use Rattle.lbk_passage.proofs.Cutting.{cut_after-open}
use Rattle.lbk_passage.proofs.Joining.{passages-at_end}
use Rattle.lbk_passage.proofs.Together.{passages-end}
use Rattle.lbk_cmd.specs.Parts.{DiffersInLabel}
use Rattle.lbk_cmd.specs.Show.{at_start, shown_passage, verdicts_of}
use Rattle.lbk_cmd.specs.Texts.{lines_from}

-- the marks of a line say kinds, and no rule
kinds-ended : (rule was : Rule) (ms : List Marked)
    → map (λ v. mark_of v.kind) (map (λ m. m.after) (ended (record { kind = Must; rule = rule }) ms))
    ≡ map (λ v. mark_of v.kind) (map (λ m. m.after) (ended (record { kind = Must; rule = was }) ms))
kinds-ended rule was [] = refl
kinds-ended rule was (m ∷ []) = refl
kinds-ended rule was (m ∷ n ∷ ms) = ap (λ l. mark_of m.after.kind ∷ l) (kinds-ended rule was (n ∷ ms))

record LastLabel (m : Marked) (ms : List Marked) : Type 0 where
  front : List ℕ
  is : (rule : Rule) → written_labels (map (λ m. m.after) (ended (record { kind = Must; rule = rule }) (m ∷ ms))) ≡ front ++ label_of rule

last_label : (m : Marked) (ms : List Marked) → LastLabel m ms
last_label m [] = record { front = 32 ∷ []; is = λ rule. ap (λ l. 32 ∷ l) (append-nil (label_of rule)) }
last_label m (n ∷ ms) =
    let rest = last_label n ms in
    record {
      front = (32 ∷ label_of m.after.rule) ++ rest.front;
      is = λ rule. ap (λ l. (32 ∷ label_of m.after.rule) ++ l) (rest.is rule) ∙ sym (append_assoc (32 ∷ label_of m.after.rule) rest.front (label_of rule));
    }

-- the line of a passage, by the rule at its end
record LineOf (m : Marked) (ms : List Marked) : Type 0 where
  front : List ℕ
  is : (rule : Rule) → shown_passage (ended (record { kind = Must; rule = rule }) (m ∷ ms)) ≡ front ++ (label_of rule ++ 10 ∷ [])

line_of : (m : Marked) (ms : List Marked) → LineOf m ms
line_of m ms =
    let by : Rule → List Marked = λ rule. ended (record { kind = Must; rule = rule }) (m ∷ ms) in
    let labels = last_label m ms in
    let said : List ℕ = written_line Kinds (passage_marks (scalars_of (by Lb3)) (verdicts_of (by Lb3))) in
    let front : List ℕ = said ++ (9 ∷ 35 ∷ ((32 ∷ label_of at_start.rule) ++ labels.front)) in
    record {
      front = front;
      is = λ rule.
          ap (λ l. (written_line Kinds (record { scalars = scalars_of (by rule); marks = mark_of at_start.kind ∷ l }) ++ (9 ∷ 35 ∷ written_labels (verdicts_of (by rule)))) ++ 10 ∷ []) (kinds-ended rule Lb3 (m ∷ ms))
          ∙ ap (λ l. (written_line Kinds (record { scalars = l; marks = map (λ v. mark_of v.kind) (verdicts_of (by Lb3)) }) ++ (9 ∷ 35 ∷ written_labels (verdicts_of (by rule)))) ++ 10 ∷ [])
          (scalars-ended (record { kind = Must; rule = rule }) (m ∷ ms) ∙ sym (scalars-ended (record { kind = Must; rule = Lb3 }) (m ∷ ms)))
          ∙ ap (λ l. (said ++ (9 ∷ 35 ∷ ((32 ∷ label_of at_start.rule) ++ l))) ++ 10 ∷ []) (labels.is rule)
          ∙ ap (λ l. (said ++ (9 ∷ 35 ∷ l)) ++ 10 ∷ []) (sym (append_assoc (32 ∷ label_of at_start.rule) labels.front (label_of rule)))
          ∙ ap (λ l. l ++ 10 ∷ []) (sym (append_assoc said (9 ∷ 35 ∷ ((32 ∷ label_of at_start.rule) ++ labels.front)) (label_of rule)))
          ∙ append_assoc front (label_of rule) (10 ∷ []);
    }

abbrev shown : ℕ → List Marked → List ℕ
shown start ms = shown_passage ms

-- the lines of some passages, by the rule at the end of the last
record LinesOf (at : ℕ) (ps : List (List Marked)) : Type 0 where
  front : List ℕ
  is : (rule : Rule) → lines_from shown at (with_last (ended (record { kind = Must; rule = rule })) ps) ≡ front ++ (label_of rule ++ 10 ∷ [])

lines_of : (at : ℕ) (ps : List (List Marked)) → 0 < length ps → AllByRecursion EndsOnce ps → LinesOf at ps
lines_of at [] some all = absurd (omega arith)
lines_of at ([] ∷ ps) some all = absurd all.0
lines_of at ((m ∷ ms) ∷ []) some all =
    let line = line_of m ms in
    record { front = line.front; is = λ rule. append-nil (shown_passage (ended (record { kind = Must; rule = rule }) (m ∷ ms))) ∙ line.is rule }
lines_of at ((m ∷ ms) ∷ q ∷ qs) some all =
    let rest = lines_of (at + length (text_of (m ∷ ms))) (q ∷ qs) (omega arith) all.1 in
    record {
      front = shown_passage (m ∷ ms) ++ rest.front;
      is = λ rule. ap (λ l. shown_passage (m ∷ ms) ++ l) (rest.is rule) ∙ sym (append_assoc (shown_passage (m ∷ ms)) rest.front (label_of rule ++ 10 ∷ []));
    }

some-parts : (m : Marked) (ms : List Marked) → 0 < length (cut_after ends_passage (m ∷ ms))
some-parts m ms =
    let holds = cut_after-open ends_passage m [] ms tt in
    let long = ap length holds.is in
    omega (arith, long)

some-marks : (ms : List Marked) → 0 < length ms → 0 < length (cut_after ends_passage ms)
some-marks [] some = absurd (omega arith)
some-marks (m ∷ ms) some = some-parts m ms

some-passages : (profile : Profile) (cell : ℕ → Cell) (c : ℕ) (cs : List ℕ) → 0 < length (passages profile cell (c ∷ cs))
unfolding passages
some-passages profile cell c cs = some-marks (marks profile cell (c ∷ cs)) (omega arith)

pub differs : (profile : Profile) (cell : ℕ → Cell) (c : ℕ) (cs : List ℕ) → DiffersInLabel profile cell (c ∷ cs)
differs profile cell c cs =
    let ps = passages profile cell (c ∷ cs) in
    let lines = lines_of 0 ps (some-passages profile cell c cs) (passages-end profile cell (c ∷ cs)) in
    record {
      front = lines.front;
      alone = ap (lines_from shown 0) (passages-at_end profile cell (c ∷ cs)) ∙ lines.is Lb3;
      followed = ap (λ v. lines_from shown 0 (with_last (ended v) ps)) (end_before_more-must cell c cs) ∙ lines.is (end_before_more cell (c ∷ cs)).rule;
    }
