use Rattle.std.proofs.Common.{[], ◌∷◌, ◌++◌, chars, sym, ap, ap₂, ◌∙◌}
use Rattle.std.proofs.lemmas.Result.{on_ok_weaker}
use Rattle.lbk_notation.specs.Shown.{passage_line}
use Rattle.lbk_passage.specs.Marks.{marks, ended}
use Rattle.lbk_passage.specs.Passages.{is_must}
use Rattle.lbk_cmd.specs.Engines.{lines_of}
use Rattle.lbk_cmd.specs.Mark.{signed_passage}
use Rattle.lbk_cmd.specs.declared.engine.Lines.TheVariants.{Text}
use Rattle.lbk_cmd.specs.Show.{verdicts_of}
use Rattle.lbk_cmd.proofs.PassageLines.{shown-is}
use Rattle.lbk_cmd.proofs.Signing.{passage_signed, text_signed}
use Rattle.lbk_cmd.proofs.gathered.Gathered.push_text.Goals as goal

pub returns-in-Signed-clause-text : goal.returns-in-Signed-clause-text
returns-in-Signed-clause-text g c =
    let cell = g.C.CellSource.cell_of c.args.how.now.cells.now in
    let profile = c.args.how.now.profile in
    let text = c.args.text.now in
    let mark = c.in-Signed.sign.now in
    on_ok_weaker c.push_signed.result
    (λ is s ms p cell_is profile_is of bytes end must.
    is
    ∙ ap (λ l. c.args.self.now.lines.items ++ l)
    (text_signed profile cell text c.utf8.text mark
    ∙ ap (λ l. signed_passage mark cell (marks profile cell (chars l))) (sym bytes)
    ∙ passage_signed mark s ms p cell profile cell_is profile_is of (ap (λ v. is_must v.kind) end ∙ must)
    ∙ ap (λ k. lines_of (Text k) cell p.start ms) (sym c.in-Signed.is)))
    c.push_signed.ensures.all

pub returns-in_ok-decide-in-Shown-clause-text : goal.returns-in_ok-decide-in-Shown-clause-text
returns-in_ok-decide-in-Shown-clause-text g c =
    let cell = g.C.CellSource.cell_of c.args.how.now.cells.now in
    let profile = c.args.how.now.profile in
    let text = c.args.text.now in
    on_ok_weaker c.push_shown.result
    (λ is s ms p cell_is profile_is of bytes end must.
    is
    ∙ ap (λ l. c.args.self.now.lines.items ++ l)
    (ap (λ l. passage_line (chars text) l ++ 10 ∷ []) (c.deref.ensures.value ∙ c.in_ok-decide-in-Shown.ensures.verdicts)
    ∙ ap₂ (λ t v. passage_line (chars t) (verdicts_of (ended v (marks profile cell (chars t)))) ++ 10 ∷ []) (sym bytes) (sym end)
    ∙ shown-is cell profile s ms p cell_is profile_is of
    ∙ ap (λ k. lines_of (Text k) cell p.start ms) (sym c.in-Shown.is)))
    c.push_shown.ensures.all
