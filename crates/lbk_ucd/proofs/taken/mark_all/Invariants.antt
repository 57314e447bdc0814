use Rattle.std.proofs.Common.{◌≡◌, ℕ, ◌<◌, ◌≤◌, ◌/◌, true, ◌⊎◌}
use Rattle.lbk_masks.specs.Bits.{is_marked}
use Rattle.lbk_ucd.proofs.taken.mark_all.Given as goal

abbrev pub invariant-loop-word : goal.invariant-loop-word
invariant-loop-word l = record {
  inside : (k : ℕ) → l.first ≤ k → k ≤ l.last → k / 64 < l.word → is_marked l.words k ≡ true;
  outside : (k : ℕ) → (k < l.first) ⊎ (l.last < k) → is_marked l.words k ≡ is_marked l.initial.words k;
}
