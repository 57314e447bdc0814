use Rattle.std.proofs.Common.{sym, subst}
use Rattle.std.specs.Char.{IsScalar}
use Rattle.lbk_bytes.proofs.PieceLemmas.{read-scalar}
use Rattle.lbk_passage.proofs.known.KnownCellsLetters.is_letter.Goals as goal

pub from_u32_unchecked-c-requires : goal.from_u32_unchecked-c-requires
from_u32_unchecked-c-requires g c = subst IsScalar (sym c.requires.1) (read-scalar c.requires.0)
