use Rattle.std.proofs.Common.{◌≡◌, ℕ, ◌<◌, ◌≤◌, ◌/◌, true, false}
use Rattle.lbk_masks.specs.Bits.{is_marked}
use Rattle.lbk_ucd.proofs.taken.any_marked.Given as goal

abbrev pub invariant-loop-word : goal.invariant-loop-word
invariant-loop-word l = record {
  yes : l.any ≡ true → (k : ℕ) × (l.first ≤ k) × (k ≤ l.last) × (is_marked l.words k ≡ true);
  no : l.any ≡ false → (k : ℕ) → l.first ≤ k → k ≤ l.last → k / 64 < l.word → is_marked l.words k ≡ false;
}
