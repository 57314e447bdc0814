use Rattle.lbk_rules.specs.Unicode.{unicode_cell}
use Rattle.lbk_rules.proofs.CellTableLemmas.{cells-told}
use Rattle.lbk_rules.proofs.UnicodeNumbers.{unicode-neighbours}
use Rattle.lbk_rules.proofs.unicode.UnicodeCellsCellSource.neighbours.Goals as goal

pub returns : goal.returns
returns c = cells-told unicode_cell _ unicode-neighbours
