use Rattle.lbk_notation.proofs.ReadingLemmas.{Reads}
use Rattle.lbk_notation.proofs.line_reading.read_bytes.Given as goal

abbrev pub invariant-loop-place : goal.invariant-loop-place
invariant-loop-place l = Reads l.form l.state l.place l.content l.bytes
