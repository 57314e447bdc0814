use Rattle.std.proofs.Common.{◌≡◌, ◌+◌, ◌-◌, ◌<◌, ◌≤◌, length}
use Rattle.lbk_words.specs.Ends.{IsReading}
use Rattle.lbk_words.specs.Near.{AreMet}
use Rattle.lbk_words.proofs.ends.fill_parts.Given as goal

abbrev pub invariant-scalars : goal.invariant-scalars
invariant-scalars g l = record {
  few : l.here.row < 43;
  within : (l.here.start < l.here.at) × (l.here.at ≤ length l.text);
  onward : (l.fn.from.count ≤ l.here.count) × (l.fn.from.at + l.here.count ≤ l.here.start + l.fn.from.count);
  count : l.here.count ≤ length l.out;
  len : length l.out ≡ length l.fn.out;
  met : AreMet (g.L.Letters.letter_of l.letters) l.near;
  reads : IsReading g.S.PartSlot.made (g.L.Letters.letter_of l.letters) l.text l.fn.from l.fn.out l.here l.out;
}

abbrev pub decreases-scalars : goal.decreases-scalars
decreases-scalars g l = length l.text - l.here.at
