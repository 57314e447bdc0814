-- What is answered of the run over a line, in the words of the grammar.
use Rattle.std.proofs.Common.{◌≡◌, ℕ, ◌≤◌, List, length, Option, Some, Result, Ok, Err, IfOk, IfErr}
use Rattle.lbk_notation.specs.declared.faults.LineFault.{LineFault}
use Rattle.lbk_notation.specs.declared.faults.LineFault.TheVariants.{LineTooLong, Bad, Memory}
use Rattle.lbk_notation.specs.declared.marks.Form.{Form}
use Rattle.lbk_notation.specs.Fault.{IsFault, longest}
use Rattle.lbk_notation.specs.Grammar.{IsLine}
use Rattle.lbk_notation.specs.TestLine.{Line}
use Rattle.lbk_notation.specs.Run.{run_line, IsRunFault}
use Rattle.lbk_notation.proofs.Completes.{complete}
use Rattle.lbk_notation.proofs.Sound.{sound}
use Rattle.lbk_notation.proofs.Places.{outside, placed}

-- one value alone is related to bytes
pub only : (form : Form) (bytes : List ℕ) (value other : Option Line) → run_line form bytes ≡ Ok value → IsLine form bytes other → other ≡ value
only form bytes value other e is = let ok = complete form bytes other is in cc

pub answered_found : (form : Form) (bytes : List ℕ) (r : Result (Option Line) LineFault) → IfOk r (λ value. run_line form bytes ≡ Ok value)
    → IfOk r (λ value. IsLine form bytes value)
answered_found form bytes (Ok value) e = sound form bytes value e
answered_found form bytes (Err fault) e = tt

pub answered_only : (form : Form) (bytes : List ℕ) (r : Result (Option Line) LineFault) → IfOk r (λ value. run_line form bytes ≡ Ok value)
    → IfOk r (λ value. (other : Option Line) → IsLine form bytes other → other ≡ value)
answered_only form bytes (Ok value) e = λ other is. only form bytes value other e is
answered_only form bytes (Err fault) e = tt

-- a place where the run stops is one where the bytes go wrong
pub refused : (form : Form) (bytes : List ℕ) (at : ℕ) → length bytes ≤ longest → run_line form bytes ≡ Err at → IsFault form bytes (Bad at)
refused form bytes at short e = (short, outside form bytes at e, placed form bytes at e)

pub answered_fault : (form : Form) (bytes : List ℕ) (r : Result (Option Line) LineFault) → length bytes ≤ longest
    → IfErr r (λ fault. IsRunFault form bytes fault) → IfErr r (λ fault. IsFault form bytes fault)
answered_fault form bytes (Ok value) short e = tt
answered_fault form bytes (Err LineTooLong) short e = elim e [ ]
answered_fault form bytes (Err (Bad at)) short e = refused form bytes at short e
answered_fault form bytes (Err Memory) short e = (short, (e.0, sound form bytes (Some e.0) e.1))

-- so a line that says something says nothing else
pub only_of : (form : Form) (bytes : List ℕ) (value other : Option Line) → IsLine form bytes value → IsLine form bytes other → other ≡ value
only_of form bytes value other is is' = only form bytes value other (complete form bytes value is) is'
