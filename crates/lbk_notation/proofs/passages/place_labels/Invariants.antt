use Rattle.std.proofs.Common.{◌+◌, ◌*◌, ◌≤◌, take}
use Rattle.lbk_notation.specs.Shown.{written_labels}
use Rattle.lbk_passage.specs.Placing.{Placed}
use Rattle.lbk_notation.proofs.passages.place_labels.Given as goal

-- the labels so far are placed, each in the room for one
abbrev pub invariant-loop-verdict : goal.invariant-loop-verdict
invariant-loop-verdict l = record {
  placed : Placed l.initial.buf l.buf l.at (written_labels (take l.verdict-index l.verdicts)) l.behind;
  short : l.behind ≤ l.at + 4 * l.verdict-index;
}
