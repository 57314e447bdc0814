use Rattle.std.proofs.Common.{◌≡◌, ◌-◌, ◌<◌, get_or}
use Rattle.lbk_masks.specs.Found.{AreFound}
use Rattle.lbk_masks.specs.Sets.{left_before}
use Rattle.lbk_masks.proofs.ByteSets.found.Given as goal

abbrev pub invariant-loop-at : goal.invariant-loop-at
invariant-loop-at l = record {
  within : l.at < l.end;
  left : get_or l.found.left 15 0 ≡ left_before l.self l.before l.text l.at;
  found : AreFound l.self l.before l.text l.at l.found;
}

abbrev pub decreases-loop-at : goal.decreases-loop-at
decreases-loop-at l = l.end - l.at
