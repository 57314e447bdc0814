use Rattle.lbk_bytes.proofs.WideLemmas.{utf32-front}
use Rattle.std.proofs.Common.{subst, sym}
use Rattle.lbk_bytes.specs.Front.{IsFront}
use Rattle.lbk_bytes.specs.Pieces.{pieces_of_utf32}
use Rattle.lbk_bytes.proofs.utf32.U32Unit.front.Goals as goal

pub returns : goal.returns
returns c =
    subst (λ n. IsFront pieces_of_utf32 c.args.units.now (record { scalar = n; size = 1 })) (sym c.unwrap_or.ensures)
    (utf32-front c.args.units.now c.from_u32.result c.requires c.from_u32.ensures.value)
