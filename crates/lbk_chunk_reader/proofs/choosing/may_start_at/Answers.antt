use Rattle.std.proofs.Common.{refl}
use Rattle.lbk_chunk_reader.specs.Numbered.{numbered}
use Rattle.lbk_chunk_reader.proofs.choosing.may_start_at.Goals as goal

pub returns : goal.returns
returns c = c.may_start.ensures (numbered c.args.end.now) (numbered c.args.next.now) (numbered c.args.cut.now)
    c.start_at.ensures refl refl
