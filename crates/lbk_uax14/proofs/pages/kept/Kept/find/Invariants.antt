use Rattle.std.proofs.Common.{◌≡◌, ℕ, ◌<◌, [], get_or}
use Rattle.lbk_uax14.proofs.pages.kept.Kept.find.Given as goal

abbrev pub invariant-loop-number : goal.invariant-loop-number
invariant-loop-number l = (k : ℕ) → k < l.number → get_or l.self.pages.items k [] ≡ l.page → ⊥
