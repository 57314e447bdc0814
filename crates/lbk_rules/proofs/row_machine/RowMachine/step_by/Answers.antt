use Rattle.std.proofs.Common.{ℕ, ◌∷◌, [], ◌%◌, reverse, refl, sym, ap, ◌∙◌}
use Rattle.lbk_uax14.specs.declared.cells.Cell.{Cell}
use Rattle.lbk_uax14.specs.Chain.{from_cells}
use Rattle.lbk_uax14.specs.Facts.{facts}
use Rattle.lbk_uax14.specs.Normal.{normal, normals}
use Rattle.lbk_rules.specs.Kinds.{kind_cell, kind_of}
use Rattle.lbk_rules.specs.Rows.{shown_of}
use Rattle.lbk_rules.proofs.FlatLemmas.{step-made}
use Rattle.lbk_rules.proofs.RowMachineLemmas.{kind_same, normals-back, so_far-normal}
use Rattle.lbk_rules.proofs.row_machine.RowMachine.step_by.Goals as goal

pub step_at-requires-clause-steps : goal.step_at-requires-clause-steps
step_at-requires-clause-steps g c = (c.args.self.now.row.profile, c.args.self.now.row.of_profile)

pub returns-clause-row : goal.returns-clause-row
returns-clause-row g c = (step-made c.args.self.now.row.profile c.args.self.now.row.steps.now c.args.self.now.row.place c.kind.result c.step_at.result.now c.args.self.now.row.of_profile c.args.self.now.row.begins c.step_at.ensures.read).begins

pub returns-clause-leads : goal.returns-clause-leads
returns-clause-leads g c = λ profile cell taken fits.
    let machine = c.args.self.now in
    let side = reverse (normals cell taken) in
    let same = kind_same cell c.args.c c.kind.result (c.kind.ensures ∙ ap (λ (f : ℕ → Cell). kind_of (f c.args.c)) (sym fits.cell_same)) in
    ap facts (normals-back cell taken c.args.c)
    ∙ ap (λ n. facts (n ∷ side)) (sym same)
    ∙ (step-made machine.row.profile machine.row.steps.now machine.row.place c.kind.result c.step_at.result.now machine.row.of_profile machine.row.begins c.step_at.ensures.read).leads side fits.row_same

pub returns-clause-shows : goal.returns-clause-shows
returns-clause-shows g c = λ profile cell taken fits.
    let machine = c.args.self.now in
    let side = reverse (normals cell taken) in
    let same = kind_same cell c.args.c c.kind.result (c.kind.ensures ∙ ap (λ (f : ℕ → Cell). kind_of (f c.args.c)) (sym fits.cell_same)) in
    (step-made machine.row.profile machine.row.steps.now machine.row.place c.kind.result c.step_at.result.now machine.row.of_profile machine.row.begins c.step_at.ensures.read).shows side fits.row_same
    ∙ ap shown_of (ap (λ p. from_cells p side (kind_cell (c.kind.result % 128 % 84) ∷ [])) fits.profile_same
    ∙ ap (λ n. from_cells profile side (n ∷ [])) same
    ∙ so_far-normal profile cell taken c.args.c (from_cells profile side (normal (cell c.args.c) ∷ [])) refl)
