use Rattle.std.proofs.Common.{map, sym, ◌∙◌}
use Rattle.lbk_chunk_reader.specs.Numbered.{numbered}
use Rattle.lbk_chunk_reader.proofs.StartingLemmas.{known-apart}
use Rattle.lbk_chunk_reader.proofs.choosing.start_behind.Goals as goal

pub returns-then-limits-eq0 : goal.returns-then-limits-eq0
returns-then-limits-eq0 c =
    c.start_at-fresh.ensures
    ∙ sym (known-apart c.args.limits.now c.args.here.now (numbered c.args.end.now) (map numbered c.args.behind.now)
    (map numbered c.args.told.now) c.if-limits-eq0.true)
