use Rattle.std.proofs.Common.{sym, ◌∙◌}
use Rattle.lbk_uax14.proofs.PagesLemmas.{scalar_below}
use Rattle.lbk_rules.specs.Unicode.{unicode_cell}
use Rattle.lbk_rules.proofs.CellTableLemmas.{kinds-at}
use Rattle.lbk_rules.proofs.unicode.UnicodeCellsKindSource.kind_at.Goals as goal

pub returns : goal.returns
returns c = c.kind_of_code.ensures ∙ sym (kinds-at unicode_cell c.args.code (scalar_below c.args.code c.requires))
