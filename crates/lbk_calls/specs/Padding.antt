-- Short texts of a fixed size.
use Rattle.std.specs.Prelude.{ℕ, ◌-◌, List, ◌++◌, length, replicate}

-- so many bytes: those of a text, and zeros behind them
abbrev pub padded : ℕ → List ℕ → List ℕ
padded size text = text ++ replicate (size - length text) 0
