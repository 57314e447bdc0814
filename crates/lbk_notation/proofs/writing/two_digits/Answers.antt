use Rattle.std.proofs.Common.{◌∙◌}
use Rattle.lbk_notation.proofs.HexPairs.{pairs-at}
use Rattle.lbk_notation.proofs.writing.two_digits.Goals as goal

pub returns : goal.returns
returns c = c.to_le_bytes.ensures ∙ pairs-at c.args.number c.requires
