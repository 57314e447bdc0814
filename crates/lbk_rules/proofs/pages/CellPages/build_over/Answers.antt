use Rattle.std.proofs.Common.{◌∙◌, ap, sym, not, arith}
use Rattle.lbk_uax14.specs.Ends.{ends_line}
use Rattle.lbk_uax14.proofs.PagesLemmas.{scalar_below}
use Rattle.lbk_rules.specs.CellPages.{page_cell}
use Rattle.lbk_rules.specs.Kinds.{kind_of}
use Rattle.lbk_rules.proofs.pages.CellPages.build_over.Goals as goal

pub invariant_of-result-clause-same : goal.invariant_of-result-clause-same
invariant_of-result-clause-same g c = λ code scalar below.
    c.build.new.walk.of_cells code below
    ∙ ap kind_of (ap (λ cells. cells code) c.build.ensures.cells ∙ sym (c.in_ok-pages.ensures.pages code scalar))

pub invariant_of-result-clause-quiet : goal.invariant_of-result-clause-quiet
invariant_of-result-clause-quiet g c = λ code scalar on.
    ap (λ cell. ends_line cell.class)
    (c.in_ok-pages.ensures.pages code scalar ∙ ap (λ cells. cells code) (sym c.build.ensures.cells))
    ∙ c.build.new.walk.told.quiet code (let below = scalar_below code scalar in omega (arith, c.in_ok-pages.ensures.ends)) scalar on

pub invariant_of-result-clause-letters : goal.invariant_of-result-clause-letters
invariant_of-result-clause-letters g c = λ code scalar on.
    ap (λ cell. not cell.letter)
    (c.in_ok-pages.ensures.pages code scalar ∙ ap (λ cells. cells code) (sym c.build.ensures.cells))
    ∙ c.build.new.walk.told.letters code (let below = scalar_below code scalar in omega (arith, c.in_ok-pages.ensures.ends)) scalar on

pub returns : goal.returns
unfolding page_cell
returns g c = λ code scalar.
    c.in_ok-pages.ensures.pages code scalar ∙ ap (λ at. g.C.CellRuns.cell_at at code) c.in_ok-walk.ensures.source
