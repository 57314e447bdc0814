use Rattle.lbk_notation.proofs.Lengths.{token-four, token-six}
use Rattle.lbk_notation.proofs.Tokens.{digits-IsToken, number-digits, one_token}
use Rattle.lbk_notation.proofs.laws.tokens.Goals as goal

pub returns : goal.returns
returns c = record { token = digits-IsToken; value = number-digits; one = one_token; four = token-four; six = token-six }
