use Rattle.lbk_ucd.proofs.RowLemmas.{shared_code, shares_code}
use Rattle.lbk_ucd.proofs.laws.shared_codes_are_held.Goals as goal

pub returns : goal.returns
returns g c = λ first last row rises rises'.
    (shared_code first last row rises rises', λ code. shares_code first last row code.0 code.1 code.2 code.3)
