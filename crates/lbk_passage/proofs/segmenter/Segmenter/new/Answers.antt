use Rattle.std.proofs.Common.{◌||◌, refl, sym, ap, arith, ◌∙◌}
use Rattle.lbk_passage.proofs.AheadLemmas.{HasAhead-nothing}
use Rattle.std.proofs.lemmas.Bool.{false≢true}
use Rattle.lbk_passage.specs.Pieces.{letter_by}
use Rattle.lbk_passage.specs.State.{new_state}
use Rattle.lbk_passage.proofs.segmenter.Segmenter.new.Goals as goal

pub invariant_of-result : goal.invariant_of-result
invariant_of-result g c = record {
  told = λ held some. absurd (omega (arith, some));
  found = HasAhead-nothing _ _ _ refl refl refl;
  whole = λ held. absurd (false≢true (
      sym (ap (λ s. s.is_settled) (c.in-Ok.ensures.state (g.C.CellSource.cell_of c.args.cells.now) c.args.profile))
      ∙ ap (λ b. b || c.in-Ok.paragraph.is_spent) held
      ));
  met = c.new-2.ensures (letter_by (g.C.CellSource.cell_of c.of.result.cells.now));
}

pub returns-clause-state : goal.returns-clause-state
returns-clause-state g c =
    c.in-Ok.ensures.state (g.C.CellSource.cell_of c.of.result.cells.now) c.args.profile
    ∙ ap (λ cells. new_state (g.C.CellSource.cell_of cells) c.args.profile c.args.limit) c.of.ensures
