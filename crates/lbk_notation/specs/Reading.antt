-- What a line of the notation is read as.
use Rattle.std.specs.Prelude.{◌≡◌, ◌↔◌, ◌<◌, ℕ, List, length, Option, Result, IfErr, IfOk, IsErrOf}
use Rattle.lbk_notation.specs.Fault.{IsFault, longest}
use Rattle.lbk_notation.specs.Grammar.{IsLine}
use Rattle.lbk_notation.specs.TestLine.{Line}
use Rattle.lbk_notation.specs.declared.faults.LineFault.{LineFault}
use Rattle.lbk_notation.specs.declared.faults.LineFault.TheVariants.{LineTooLong}
use Rattle.lbk_notation.specs.declared.marks.Form.{Form}

-- too long, or the one line that the grammar relates to the bytes; or a fault: for `Bad` they are outside the grammar,
-- from the offset on, for `Memory` they are a line with marks
pub record IsReadAs (form : Form) (bytes : List ℕ) (result : Result (Option Line) LineFault) : Type 0 where
  pub long : IsErrOf result LineTooLong ↔ (longest < length bytes)
  pub found : IfOk result (λ line. IsLine form bytes line)
  pub only : IfOk result (λ line. (other : Option Line) → IsLine form bytes other → other ≡ line)
  pub fault : IfErr result (λ fault. IsFault form bytes fault)
