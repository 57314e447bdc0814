-- Bytes at whose front a scalar stands.
use Rattle.std.specs.Prelude.{◌≡◌, ℕ, ◌≤◌, List, get_or}
use Rattle.bstr.specs.Utf8.{decoded, good}

-- one does, if the first byte is this one or a greater
abbrev pub StandsFrom : ℕ → List ℕ → Type 0
StandsFrom least bytes = least ≤ get_or bytes 0 0 → (code size : ℕ) × (decoded bytes ≡ good code size)
