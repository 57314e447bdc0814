use Rattle.lbk_rules.specs.FirstBytes.{AreTold}
use Rattle.lbk_rules.specs.Unicode.{unicode_cell}
use Rattle.lbk_rules.proofs.UnicodeRuns.{IsReached}
use Rattle.lbk_rules.proofs.unicode.first_bytes.Given as goal

abbrev pub invariant-loop-codes : goal.invariant-loop-codes
invariant-loop-codes l = record {
  reached : IsReached l.first l.codes-index;
  told : AreTold unicode_cell l.told l.first;
}
