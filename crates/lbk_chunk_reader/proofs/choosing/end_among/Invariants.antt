use Rattle.std.proofs.Common.{◌≡◌, length, map}
use Rattle.std.specs.List.{list_all}
use Rattle.std.specs.Option.{option_map}
use Rattle.lbk_chunks.specs.Chunks.{fits}
use Rattle.lbk_chunk_reader.specs.Numbered.{numbered}
use Rattle.lbk_chunk_reader.proofs.EndingLemmas.{IsEnding}
use Rattle.lbk_chunk_reader.proofs.choosing.end_among.Given as goal

abbrev pub invariant-loop-next : goal.invariant-loop-next
invariant-loop-next l = record {
  ends : IsEnding l.limits l.here (map numbered l.fn.ahead) (numbered l.last) (option_map numbered l.early)
      (map numbered l.left);
  fit : list_all (fits l.limits l.here) (map numbered l.fn.ahead)
      ≡ list_all (fits l.limits l.here) (map numbered l.left);
}

abbrev pub decreases-loop-next : goal.decreases-loop-next
decreases-loop-next l = length l.left
