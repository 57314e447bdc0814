use Rattle.std.proofs.Common.{◌≡◌, ◌+◌, List, [], ◌∷◌, length, arith, length-append}
use Rattle.std.proofs.lemmas.List.{length-map}
use Rattle.lbk_notation.specs.Shown.{passage_line}
use Rattle.lbk_notation.proofs.Lengths.{short, says}
use Rattle.lbk_passage.specs.Marks.{Marked, scalars_of}
use Rattle.lbk_cmd.specs.Show.{verdicts_of}
use Rattle.lbk_cmd.proofs.laws.shown_lines.Goals as goal

one_more : (ms : List Marked) → length (verdicts_of ms) ≡ length (scalars_of ms) + 1
one_more ms = omega (arith, length-map ms (λ (m : Marked). m.after), length-map ms (λ (m : Marked). m.scalar))

pub returns-clause-short : goal.returns-clause-short
returns-clause-short c = λ ms.
    (let few = short (scalars_of ms) (verdicts_of ms) (one_more ms) in
    omega (arith, few, length-append (passage_line (scalars_of ms) (verdicts_of ms)) (10 ∷ [])))

pub returns-clause-says : goal.returns-clause-says
returns-clause-says c = λ ms all. says (scalars_of ms) (verdicts_of ms) (one_more ms) all
