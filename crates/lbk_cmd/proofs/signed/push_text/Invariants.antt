use Rattle.std.proofs.Common.{◌≡◌, ◌++◌, length, take}
use Rattle.lbk_cmd.specs.Signing.{IsCut, signed_from}
use Rattle.lbk_cmd.proofs.signed.push_text.Given as goal

abbrev pub invariant-loop-done : goal.invariant-loop-done
invariant-loop-done g l = record {
  put : l.out.items ++ signed_from l.mark l.text l.done l.breaks
      ≡ l.fn.out.items ++ signed_from l.mark l.text 0 l.fn.breaks;
  cut : IsCut l.done (length l.text) l.breaks;
  kept : take (length l.fn.out.items) l.out.items ≡ l.fn.out.items;
}

abbrev pub decreases-loop-done : goal.decreases-loop-done
decreases-loop-done g l = length l.breaks
