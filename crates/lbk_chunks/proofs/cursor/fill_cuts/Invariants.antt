use Rattle.std.proofs.Common.{◌≡◌, ◌-◌, ◌<◌, ◌≤◌, ◌⊎◌, ℕ, List, length, slice_index_or}
use Rattle.lbk_rules.specs.declared.Cell.{Cell}
use Rattle.lbk_chunks.specs.declared.cut.Cut.{Cut}
use Rattle.lbk_chunks.specs.Coming.{AreRead, StandWithin, IsAhead, breaks_left, no_cut}
use Rattle.lbk_chunks.proofs.CursorLemmas.{IsSoFar}
use Rattle.lbk_chunks.proofs.cursor.fill_cuts.Given as goal

abbrev pub invariant-loop-here : goal.invariant-loop-here
invariant-loop-here g l = record {
  first : (cell : ℕ → Cell) (cuts : List Cut) → AreRead l.text l.fn.words → IsAhead cell (g.K.KindSource.kinds_of l.table) (g.K.KindSource.pairs_of l.table) l.text l.fn.place cuts
      → IsSoFar cell (g.K.KindSource.kinds_of l.table) (g.K.KindSource.pairs_of l.table) l.text cuts l.out l.here l.words;
  room : l.here.count ≤ l.fn.room;
  within : StandWithin (length l.text) l.here.count l.out;
  counted : 0 < l.here.count → l.here.count ≡ l.fn.room → l.here.place.words ≡ (slice_index_or l.out (l.here.count - 1) no_cut).words;
  shorter : (l.here.count ≡ 0) ⊎ (breaks_left l.text l.here.place.breaks < breaks_left l.text l.fn.place.breaks);
  onward : breaks_left l.text l.here.place.breaks ≤ breaks_left l.text l.fn.place.breaks;
}

abbrev pub decreases-loop-here : goal.decreases-loop-here
decreases-loop-here g l = breaks_left l.text l.here.place.breaks
