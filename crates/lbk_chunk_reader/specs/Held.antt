-- The text that a window keeps.
use Rattle.std.specs.Prelude.{◌≡◌, ℕ, ◌+◌, ◌*◌, ◌-◌, ◌≤◌, List, drop, length, take}
use Rattle.lbk_chunks.specs.declared.chunk.Chunk.{Chunk}
use Rattle.lbk_chunk_reader.specs.declared.held.Held.{Held}

-- the part of a text that is kept, if the bytes from `start` on are needed
pub record IsHeld (start : ℕ) (text : List ℕ) (h : Held) : Type 0 where
  pub early : h.from ≤ start
  pub within : h.from ≤ length text
  pub bytes : h.bytes.items ≡ drop h.from text

-- bytes are kept up to this one of the text
abbrev pub Reaches : ℕ → Held → Type 0
Reaches at h = at ≤ h.from + length h.bytes.items

-- at most half of the bytes that are kept are before this one
abbrev pub KeepsFew : ℕ → Held → Type 0
KeepsFew at h = 2 * (at - h.from) ≤ length h.bytes.items

-- the bytes of a chunk of a text
abbrev pub chunk_text : List ℕ → Chunk → List ℕ
chunk_text text c = take (c.end - c.start) (drop c.start text)
