use Rattle.std.proofs.Common.{◌≡◌, ℕ, ◌%◌, ◌<◌, Bool, ◌==◌, ap, ap₂, nat_le, sym, subst, ◌∙◌}
use Rattle.lbk_uax14.specs.declared.cells.Cell.{Cell}
use Rattle.lbk_rules.specs.Kinds.{kind_cell, kind_of}
use Rattle.lbk_rules.specs.Unicode.{unicode_cell}
use Rattle.lbk_rules.proofs.KindsLemmas.{kind-few}
use Rattle.lbk_rules.proofs.UnicodeTables.{cell-rebuilt, flag-letter, flag-wide}
use Rattle.lbk_rules.proofs.unicode.UnicodeCellsCellSource.cell.Goals as goal

pub cell_of_kind-of_kind-requires : goal.cell_of_kind-of_kind-requires
cell_of_kind-of_kind-requires c = subst (λ n. n < 84) (sym c.kind_of_code.ensures) (kind-few (unicode_cell c.from-code.result))

-- a cell with these two flags
abbrev with_flags : Cell → Bool → Bool → Cell
with_flags cell wide letter = record cell { wide = wide; letter = letter }

pub returns : goal.returns
returns c =
    let cell = unicode_cell c.from-code.result in
    let flags = c.flags_of-flags.ensures in
    ap (λ (kind : Cell). with_flags kind (c.flags_of-flags.result % 2 == 1) (nat_le 2 c.flags_of-flags.result)) (c.cell_of_kind-of_kind.ensures ∙ ap kind_cell c.kind_of_code.ensures)
    ∙ ap₂ (with_flags (kind_cell (kind_of cell)))
    (ap (λ n. n % 2 == 1) flags ∙ flag-wide cell.wide cell.letter)
    (ap (nat_le 2) flags ∙ flag-letter cell.wide cell.letter)
    ∙ cell-rebuilt c.from-code.result ∙ ap unicode_cell c.from-code.ensures
