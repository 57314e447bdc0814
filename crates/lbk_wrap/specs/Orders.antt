-- Lines one after another.
use Rattle.std.specs.Prelude.{◌≡◌, ℕ, ◌≤◌, List, [], ◌∷◌}
use Rattle.lbk_wrap.specs.declared.open.Line.{Line}

-- some lines, of which the first begins at one byte, each of the others where the one before it ends, and the last
-- ends at another byte. The blanks at the end of a line are in it
abbrev pub AreInARow : ℕ → ℕ → List Line → Type 0
AreInARow at end [] = at ≡ end
AreInARow at end (l ∷ ls) = (l.start ≡ at) × (l.start ≤ l.end) × (l.end ≤ l.next) × AreInARow l.next end ls
