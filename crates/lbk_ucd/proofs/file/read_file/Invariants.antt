use Rattle.std.proofs.Common.{length}
use Rattle.lbk_ucd.specs.Shown.{shown_format, lines_left}
use Rattle.lbk_ucd.proofs.FileLemmas.{IsReadTo}
use Rattle.lbk_ucd.proofs.file.read_file.Given as goal

abbrev pub invariant-loop-rest : goal.invariant-loop-rest
invariant-loop-rest g l = IsReadTo (shown_format l.format) l.bytes l.line (lines_left l.rest) l.gathered l.grown

abbrev pub decreases-loop-rest : goal.decreases-loop-rest
decreases-loop-rest g l = length (lines_left l.rest)
