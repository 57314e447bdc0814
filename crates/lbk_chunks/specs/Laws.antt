-- What the laws say about the chunks of a text.
use Rattle.std.specs.Prelude.{◌≡◌, ℕ, ◌+◌, ◌<◌, ◌≤◌, ◌⊎◌, true, false, List, [], ◌∷◌}
use Rattle.lbk_chunks.specs.declared.chunk.Chunk.{Chunk}
use Rattle.lbk_chunks.specs.declared.chunk.Limits.{Limits}
use Rattle.lbk_chunks.specs.declared.cut.Cut.{Cut}
use Rattle.lbk_chunks.specs.declared.chunk.Here.{Here}
use Rattle.lbk_chunks.specs.Chunks.{cuts_past, fits, is_early}

-- each chunk is within the limits, or alone
abbrev pub IsWithin : Limits → Chunk → Type 0
IsWithin l c = (c.alone ≡ true) ⊎ ((c.end ≤ c.start + l.most) × ((l.words ≡ 0) ⊎ (c.words ≤ l.words)))

abbrev pub AreWithin : Limits → List Chunk → Type 0
AreWithin l [] = Unit {0}
AreWithin l (c ∷ cs) = IsWithin l c × AreWithin l cs

-- the first of these cuts does not fit
abbrev pub BeginsUnfit : Limits → Here → List Cut → Type 0
BeginsUnfit l here [] = ⊥
BeginsUnfit l here (c ∷ cs) = fits l here c ≡ false

-- no longer chunk would do: the last cut ends it, or an early end does, or the next cut does not fit
abbrev pub IsFull : Limits → List Cut → Here → Cut → Type 0
IsFull l cuts here end = (cuts_past end.at cuts ≡ [])
    ⊎ ((is_early l here end ≡ true) ⊎ BeginsUnfit l here (cuts_past end.at cuts))

-- the first starts at this place, and each other one where the one before it ends
abbrev pub AreJoined : ℕ → List Chunk → Type 0
AreJoined at [] = Unit {0}
AreJoined at (c ∷ cs) = (c.start ≡ at) × AreJoined c.end cs

-- each starts past the start of the one before it, the first past this place
abbrev pub StartsRise : ℕ → List Chunk → Type 0
StartsRise at [] = Unit {0}
StartsRise at (c ∷ cs) = (at < c.start) × StartsRise c.start cs

-- where the last one ends
abbrev pub last_end : ℕ → List Chunk → ℕ
last_end at [] = at
last_end at (c ∷ cs) = last_end c.end cs
