use Rattle.std.proofs.Common.{◌≡◌, ℕ, ◌<◌, get_or, length}
use Rattle.lbk_rules.specs.Kinds.{kind_of}
use Rattle.lbk_rules.specs.Unicode.{unicode_cell}
use Rattle.lbk_rules.proofs.UnicodeRuns.{IsReached}
use Rattle.lbk_rules.proofs.unicode.fill_kinds.Given as goal

abbrev pub invariant-loop-codes : goal.invariant-loop-codes
invariant-loop-codes l = record {
  long : length l.kinds ≡ 0x11_0000;
  reached : IsReached l.first l.codes-index;
  filled : (code : ℕ) → code < l.first → get_or l.kinds code 0 ≡ kind_of (unicode_cell code);
}
