-- Chunks: how a text is divided at its cuts, for search and retrieval.
use Rattle.std.specs.Prelude.{◌≡◌, ℕ, ◌-◌, ◌*◌, ◌/◌, ◌<◌, ◌≤◌, ◌&&◌, ◌||◌, ◌==◌, Bool, not, nat_le, nat_lt, List, []}
use Rattle.std.specs.Prelude.{◌∷◌, Option, Some, None, find, if◌then◌else◌}
use Rattle.std.specs.List.{list_all}
use Rattle.std.specs.Option.{unwrap_or}
use Rattle.lbk_chunks.specs.declared.chunk.Chunk.{Chunk}
use Rattle.lbk_chunks.specs.declared.chunk.Here.{Here}
use Rattle.lbk_chunks.specs.declared.chunk.Limits.{Limits}
use Rattle.lbk_chunks.specs.declared.cut.Cut.{Cut}

-- limits in range: at least one byte, an early end within the limit, at most half repeated
abbrev pub are_limits : Limits → Bool
are_limits l = nat_lt 0 l.most && (nat_le l.least l.most && nat_le l.overlap (l.most / 2))

-- the cuts past an offset
abbrev pub cuts_past : ℕ → List Cut → List Cut
cuts_past at [] = []
cuts_past at (c ∷ cs) = if nat_le c.at at then cuts_past at cs else c ∷ cs

-- a chunk that ends at this cut is within the limits; 0 words means any number
abbrev pub fits : Limits → Here → Cut → Bool
fits l here c = nat_le (c.at - here.start) l.most && (l.words == 0 || nat_le (c.words - here.words) l.words)

-- it may end there early: a line must end there, and enough bytes are in no earlier chunk
abbrev pub is_early : Limits → Here → Cut → Bool
is_early l here c = c.kind == 2 && nat_le l.least (c.at - here.told)

-- the longest prefix of cuts that fit
abbrev pub fitting : Limits → Here → List Cut → List Cut
fitting l here [] = []
fitting l here (c ∷ cs) = if fits l here c then c ∷ fitting l here cs else []

-- the last of some cuts, and the last of them at which a chunk may end early
abbrev pub last_of : Cut → List Cut → Cut
last_of c [] = c
last_of c (d ∷ ds) = last_of d ds

abbrev pub last_early : Limits → Here → Option Cut → List Cut → Option Cut
last_early l here found [] = found
last_early l here found (c ∷ cs) = last_early l here (if is_early l here c then Some c else found) cs

-- where a chunk ends, if these cuts are ahead: at the first one, if it does not fit; at the last, if all fit; else at
-- the last early end that fits, or at the last cut that fits
abbrev pub end_of : Limits → Here → Cut → List Cut → Cut
end_of l here first more =
    if not (fits l here first) then first
    else (if list_all (fits l here) more then last_of first more
    else unwrap_or (last_early l here None (first ∷ fitting l here more)) (last_of first (fitting l here more)))

-- the next chunk may start at this cut, before the end of this one: it repeats little enough, at most half of this
-- chunk, and the cut after that end still fits
abbrev pub may_start : Limits → Here → Cut → Cut → Cut → Bool
may_start l here end next c =
    nat_lt c.at end.at && (nat_le (end.at - c.at) l.overlap && (nat_le (2 * (end.at - c.at)) (end.at - here.start)
    && fits l (record { start = c.at; words = c.words; told = end.at }) next))

-- where the next chunk starts: at the first such cut of this one, or at its end
abbrev pub start_at : Cut → ℕ → Here
start_at c told = record { start = c.at; words = c.words; told = told }

abbrev pub start_among : Cut → Option Cut → Here
start_among end None = start_at end end.at
start_among end (Some c) = start_at c end.at

abbrev pub start_before : Limits → List Cut → Here → Cut → List Cut → Here
start_before l cuts here end [] = start_at end end.at
start_before l cuts here end (next ∷ _) = start_among end (find (may_start l here end next) (cuts_past here.start cuts))

abbrev pub after : Limits → List Cut → Here → Cut → Here
after l cuts here end = start_before l cuts here end (cuts_past end.at cuts)

-- the chunk from here to a cut
abbrev pub chunk_to : Limits → Here → Cut → Chunk
chunk_to l here end = record {
  start = here.start;
  end = end.at;
  words = end.words - here.words;
  kind = end.kind;
  rule = end.rule;
  alone = not (fits l here end);
}

-- these are the chunks from here on, of a text with these cuts
abbrev pub AreChunks : Limits → List Cut → Here → List Chunk → Type 0
AreChunks l cuts here [] = cuts_past here.told cuts ≡ []
AreChunks l cuts here (chunk ∷ chunks) =
    (first : Cut) × (more : List Cut) × (cuts_past here.told cuts ≡ first ∷ more)
    × (chunk ≡ chunk_to l here (end_of l here first more))
    × AreChunks l cuts (after l cuts here (end_of l here first more)) chunks

-- each chunk starts at the end of the one before or earlier, and ends past it and within the text; the last two
-- numbers are the first and the last end
abbrev pub AreTold : ℕ → ℕ → ℕ → List Chunk → Type 0
AreTold from to size [] = from ≡ to
AreTold from to size (c ∷ cs) = (c.start ≤ from) × (from < c.end) × (c.end ≤ size) × AreTold c.end to size cs

-- the start of a text
abbrev pub text_start : Here
text_start = record { start = 0; words = 0; told = 0 }
