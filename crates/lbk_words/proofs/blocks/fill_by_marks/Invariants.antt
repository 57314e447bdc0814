use Rattle.std.proofs.Common.{◌+◌, ◌-◌, length}
use Rattle.lbk_words.specs.Filling.{FillsOn}
use Rattle.lbk_words.proofs.blocks.fill_by_marks.Given as goal

abbrev pub invariant-loop-here : goal.invariant-loop-here
invariant-loop-here l = FillsOn l.text l.fn.start l.fn.out l.here l.out

abbrev pub decreases-loop-here : goal.decreases-loop-here
decreases-loop-here l = (l.base + 64 - l.here.at) + (length l.initial.out - l.here.count)
