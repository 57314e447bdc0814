use Rattle.std.proofs.Common.{◌≡◌, ◌+◌, true}
use Rattle.lbk_passage.specs.Flags.{ArePassed}
use Rattle.lbk_passage.proofs.flags.ByteFlags.are_quiet.Given as goal

abbrev pub invariant-loop-k : goal.invariant-loop-k
invariant-loop-k l = l.all ≡ true → ArePassed l.self.is_quiet l.bytes l.start (l.start + l.k)
