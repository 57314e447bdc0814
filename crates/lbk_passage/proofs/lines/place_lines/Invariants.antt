use Rattle.std.proofs.Common.{◌+◌, ◌*◌, ◌≤◌, take}
use Rattle.std.specs.List.{flat_map}
use Rattle.lbk_passage.specs.Placing.{Placed}
use Rattle.lbk_passage.proofs.lines.place_lines.Given as goal

-- the lines so far are placed, each in the room for one
abbrev pub invariant-loop-part : goal.invariant-loop-part
invariant-loop-part g l = record {
  placed : Placed l.initial.buf l.buf l.at (flat_map (g.T.HasLine.line l.start) (take l.part-index l.parts)) l.behind;
  short : l.behind ≤ l.at + 64 * l.part-index;
}
