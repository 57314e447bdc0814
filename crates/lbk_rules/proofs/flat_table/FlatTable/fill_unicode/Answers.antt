use Rattle.std.proofs.Common.{◌≡◌, ℕ, ◌<◌, List, ap, refl, slice_index, subst, sym, ◌∙◌}
use Rattle.std.specs.Prelude.{fold}
use Rattle.lbk_rules.specs.declared.unicode_runs.TheConstants.{UNICODE_DIGEST, UNICODE_NEIGHBOURS}
use Rattle.lbk_rules.specs.FlatTable.{AreFlatKinds, digest_of}
use Rattle.lbk_rules.specs.Kinds.{kind_of, kinds_of_cells}
use Rattle.lbk_rules.specs.Rows.{steps_in}
use Rattle.lbk_rules.specs.Neighbours.{AreNeighboursOf, AreTold, digest_of_neighbours, digest_with}
use Rattle.lbk_rules.specs.Unicode.{unicode_cell}
use Rattle.lbk_rules.proofs.CellTableLemmas.{cells-told, kinds-at, kinds-flat}
use Rattle.lbk_rules.proofs.UnicodeNumbers.{unicode-digest, unicode-neighbours}
use Rattle.lbk_rules.proofs.flat_table.FlatTable.fill_unicode.Goals as goal

pub returns-clause-table : goal.returns-clause-table
returns-clause-table c = record {
  kinds = subst (λ kinds. AreFlatKinds kinds unicode_cell) (sym c.fill_kinds.ensures) (kinds-flat unicode_cell);
  told = λ profile. subst (λ kinds. AreTold (steps_in profile) kinds UNICODE_NEIGHBOURS) (sym c.fill_kinds.ensures) (cells-told unicode_cell UNICODE_NEIGHBOURS unicode-neighbours profile);
}

pub returns-clause-whole : goal.returns-clause-whole
unfolding digest_of
returns-clause-whole c = (
  refl,
  sym (ap (fold digest_with (digest_of_neighbours 0xcbf2_9ce4_8422_2325 UNICODE_NEIGHBOURS)) c.fill_kinds.ensures ∙ unicode-digest),
)

pub returns-clause-kinds : goal.returns-clause-kinds
returns-clause-kinds c = λ code below. ap (λ kinds. slice_index kinds code) c.fill_kinds.ensures ∙ kinds-at unicode_cell code below

pub returns-clause-neighbours : goal.returns-clause-neighbours
returns-clause-neighbours c = subst (λ kinds. AreNeighboursOf kinds UNICODE_NEIGHBOURS) (sym c.fill_kinds.ensures) unicode-neighbours
