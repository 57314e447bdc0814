use Rattle.std.proofs.Common.{◌-◌, ◌+◌, ◌≡◌, ◌≤◌, ◌<◌, ◌%◌, ◌^◌, ℕ, get_or}
use Rattle.lbk_bytes.specs.Order.{no_break}
use Rattle.lbk_calls.proofs.columns.lbk_columns.Given as goal

abbrev pub invariant-loop-k : goal.invariant-loop-k
invariant-loop-k l = record {
  within : l.k ≤ l.count;
  at : (i : ℕ) → i < l.k → get_or l.at i 0 ≡ ((get_or l.breaks i no_break).at + l.from) % 2 ^ 64 % 2 ^ 32;
  kind : (i : ℕ) → i < l.k → get_or l.kind i 0 ≡ (get_or l.breaks i no_break).kind;
  rule : (i : ℕ) → i < l.k → get_or l.rule i 0 ≡ (get_or l.breaks i no_break).rule;
  at_after : (i : ℕ) → l.k ≤ i → get_or l.at i 0 ≡ get_or l.fn.at i 0;
  kind_after : (i : ℕ) → l.k ≤ i → get_or l.kind i 0 ≡ get_or l.fn.kind i 0;
  rule_after : (i : ℕ) → l.k ≤ i → get_or l.rule i 0 ≡ get_or l.fn.rule i 0;
}

abbrev pub decreases-loop-k : goal.decreases-loop-k
decreases-loop-k l = l.count - l.k
