-- The lines of the chunks of ranges, joined.
use Rattle.std.proofs.Common.{◌≡◌, ℕ, ◌+◌, ◌<◌, ◌≤◌, Bool, true, false, not, nat_le, nat_lt, List, [], ◌∷◌, ◌++◌, length, append_assoc, length-append, Some, None, if◌then◌else◌, refl, sym, ap, subst, ◌∙◌, arith}
use Rattle.std.specs.List.{AllByRecursion, flat_map}
use Rattle.std.proofs.lemmas.Bool.Decides.{nat_tests}
use Rattle.lbk_rules.specs.declared.Cell.{Cell}
use Rattle.lbk_passage.specs.Marks.{Marked, text_of}
use Rattle.lbk_passage.specs.Pieces.{pieces_of}
use Rattle.lbk_passage.specs.Segments.{segments_of}
use Rattle.lbk_chunk_reader.specs.PassageWords.{words_in_pieces}
use Rattle.lbk_chunks.specs.declared.chunk.Chunk.{Chunk}
use Rattle.lbk_chunks.specs.declared.chunk.Limits.{Limits}
use Rattle.lbk_chunks.specs.declared.cut.Cut.{Cut}
use Rattle.lbk_chunks.specs.declared.chunk.Here.{Here}
use Rattle.lbk_chunks.specs.Chunks.{AreChunks, after, cuts_past, end_of, text_start}
use Rattle.lbk_chunks.specs.Laws.{StartsRise}
use Rattle.lbk_chunks.proofs.LawLemmas.{after-told, chunks-start-past, start-told}
use Rattle.lbk_chunk_reader.specs.Between.{AreCutsBetween}
use Rattle.lbk_chunk_reader.specs.Cuts.{cuts_between, cuts_of_passages}
use Rattle.lbk_chunk_reader.specs.Held.{chunk_text}
use Rattle.lbk_chunk_reader.proofs.BetweenLemmas.{AreUpTo, between-append, between-up_to, passage-between, passages-rising, past-up_to}
use Rattle.lbk_cmd.specs.Chunk.{Wanted, chunk_lines, line_with, lines_by_ranges}
use Rattle.lbk_cmd.specs.Ranges.{AreRanges, begins_in, end_of_ranges}
use Rattle.lbk_cmd.proofs.Chunking.{text_given}

-- the cuts of passages stand in their text
passages-between : (cell : ℕ → Cell) (start words : ℕ) (ps : List (List Marked)) → AreCutsBetween start (cuts_of_passages cell start words ps) (start + length (text_given ps))
passages-between cell start words [] = omega arith
passages-between cell start words (ms ∷ ps) =
    let pieces = pieces_of cell (text_of ms) in
    let more = words + length (words_in_pieces start pieces) in
    let behind = start + length (text_of ms) in
    let place : behind + length (text_given ps) ≡ start + length (text_given (ms ∷ ps)) = omega (arith, length-append (text_of ms) (text_given ps)) in
    between-append start (cuts_between start words (segments_of ms) pieces) behind (cuts_of_passages cell behind more ps) (start + length (text_given (ms ∷ ps)))
    (passage-between cell start words ms)
    (subst (AreCutsBetween behind (cuts_of_passages cell behind more ps)) place (passages-between cell behind more ps))

-- the first cut past a byte
cut-past-by : (at : ℕ) (d : Cut) (ds : List Cut) (c : Cut) (more : List Cut) (b : Bool) → nat_le d.at at ≡ b → (if b then cuts_past at ds else d ∷ ds) ≡ c ∷ more
    → (cuts_past at ds ≡ c ∷ more → at < c.at) → at < c.at
cut-past-by at d ds c more true test is later = later is
cut-past-by at d ds c more false test is later =
    let first : d ≡ c = cc in
    subst (λ (x : Cut). at < x.at) first (let past : at < d.at = grind (arith, nat_tests) in past)

cut-past : (at : ℕ) (cs : List Cut) (c : Cut) (more : List Cut) → cuts_past at cs ≡ c ∷ more → at < c.at
cut-past at [] c more is = absurd (let no : ⊥ = cc in no)
cut-past at (d ∷ ds) c more is = cut-past-by at d ds c more (nat_le d.at at) refl is (cut-past at ds c more)

-- chunks begin before the end of their text
abbrev StartBelow : ℕ → List Chunk → Type 0
StartBelow to chunks = AllByRecursion (λ (c : Chunk). c.start < to) chunks

starts-below : (l : Limits) (cuts : List Cut) (to : ℕ) (h : Here) (chunks : List Chunk) → AreUpTo to cuts → h.start ≤ h.told → AreChunks l cuts h chunks → StartBelow to chunks
starts-below l cuts to h [] all below are = tt
starts-below l cuts to h (c ∷ cs) all below are =
    let end = end_of l h are.0 are.1 in
    let next = after l cuts h end in
    let first = subst (AreUpTo to) are.2 (past-up_to to h.told cuts all) in
    let past = cut-past h.told cuts are.0 are.1 are.2 in
    let starts : c.start ≡ h.start = ap (λ (x : Chunk). x.start) are.3 in
    let told = after-told l cuts h end in (
      omega (arith, starts, below, past, first.0),
      starts-below l cuts to next cs all (omega (arith, told, start-told l cuts h end (cuts_past end.at cuts))) are.4,
    )

module _ (line : Chunk → List ℕ) where
  abbrev pub lines_from : ℕ → List Chunk → List ℕ
  lines_from from chunks = flat_map (λ (c : Chunk). if not (nat_lt c.start from) then line c else []) chunks

  abbrev pub lines_between : ℕ → ℕ → List Chunk → List ℕ
  lines_between from to chunks = flat_map (λ (c : Chunk). if begins_in (record { from = from; to = to }) c.start then line c else []) chunks

  none-from : (to : ℕ) (chunks : List Chunk) → StartBelow to chunks → lines_from to chunks ≡ []
  none-from to [] below = refl
  none-from to (c ∷ cs) below =
      let early : nat_lt c.start to ≡ true = (let first = below.0 in grind (arith, nat_tests)) in
      rw early (none-from to cs below.1)

  -- behind the start of a range all chunks begin in it or behind it
  late : (from to at : ℕ) (chunks : List Chunk) → from ≤ to → to ≤ at → StartsRise at chunks → (lines_between from to chunks ≡ []) × (lines_from to chunks ≡ lines_from from chunks)
  late from to at [] below behind rise = (refl, refl)
  late from to at (c ∷ cs) below behind rise =
      let rest = late from to c.start cs below (let first = rise.0 in omega (arith, first, behind)) rise.1 in
      let first = rise.0 in
      let not_to : nat_lt c.start to ≡ false = grind (arith, nat_tests) in
      let not_from : nat_lt c.start from ≡ false = grind (arith, nat_tests) in (
        rw (not_to, not_from) rest.0,
        rw (not_to, not_from) (ap (λ x. line c ++ x) rest.1),
      )

  abbrev Rise : List Chunk → Type 0
  Rise [] = Unit {0}
  Rise (c ∷ cs) = StartsRise c.start cs

  rise-on : (c : Chunk) (cs : List Chunk) → StartsRise c.start cs → Rise cs
  rise-on c [] rise = tt
  rise-on c (d ∷ ds) rise = rise.1

  split-by : (from to : ℕ) (c : Chunk) (cs : List Chunk) (b d : Bool) → from ≤ to → StartsRise c.start cs → nat_lt c.start to ≡ b → nat_lt c.start from ≡ d
      → lines_between from to cs ++ lines_from to cs ≡ lines_from from cs → lines_between from to (c ∷ cs) ++ lines_from to (c ∷ cs) ≡ lines_from from (c ∷ cs)
  split-by from to c cs true true below rise test before rest = rw (test, before) rest
  split-by from to c cs true false below rise test before rest =
      rw (test, before) (append_assoc (line c) (lines_between from to cs) (lines_from to cs) ∙ ap (λ x. line c ++ x) rest)
  split-by from to c cs false d below rise test before rest =
      let behind : to ≤ c.start = grind (arith, nat_tests) in
      let late_from : nat_lt c.start from ≡ false = grind (arith, nat_tests) in
      let others = late from to c.start cs below behind rise in
      rw (test, late_from, others.0) (ap (λ x. line c ++ x) others.1)

  split : (from to : ℕ) (chunks : List Chunk) → from ≤ to → Rise chunks → lines_between from to chunks ++ lines_from to chunks ≡ lines_from from chunks
  split from to [] below rise = refl
  split from to (c ∷ cs) below rise = split-by from to c cs (nat_lt c.start to) (nat_lt c.start from) below rise refl refl (split from to cs below (rise-on c cs rise))

-- what is written of a chunk that is asked for
abbrev own_line : Wanted → List ℕ → Chunk → List ℕ
own_line wanted text c = line_with wanted.file (if wanted.texts then Some (chunk_text text c) else None) c

all-from : (line : Chunk → List ℕ) (chunks : List Chunk) → lines_from line 0 chunks ≡ flat_map line chunks
all-from line [] = refl
all-from line (c ∷ cs) = let late : nat_lt c.start 0 ≡ false = grind (arith, nat_tests) in rw late (ap (λ x. line c ++ x) (all-from line cs))

by-ranges : (wanted : Wanted) (text : List ℕ) (from : ℕ) (tos : List ℕ) (chunks : List Chunk) → AreRanges from tos → Rise (own_line wanted text) chunks
    → StartBelow (end_of_ranges from tos) chunks → lines_by_ranges wanted text from tos chunks ≡ lines_from (own_line wanted text) from chunks
by-ranges wanted text from [] chunks are rise below = sym (none-from (own_line wanted text) from chunks below)
by-ranges wanted text from (to ∷ tos) chunks are rise below =
    ap (λ x. lines_between (own_line wanted text) from to chunks ++ x) (by-ranges wanted text to tos chunks are.1 rise below)
    ∙ split (own_line wanted text) from to chunks are.0 rise

pub chunks-by-ranges : (wanted : Wanted) (limits : Limits) (cell : ℕ → Cell) (passages : List (List Marked)) (chunks : List Chunk) (tos : List ℕ)
    → AreChunks limits (cuts_of_passages cell 0 0 passages) text_start chunks → AreRanges 0 tos → length (flat_map text_of passages) ≤ end_of_ranges 0 tos
    → lines_by_ranges wanted (flat_map text_of passages) 0 tos chunks ≡ chunk_lines (record wanted { range = None }) (flat_map text_of passages) chunks
chunks-by-ranges wanted limits cell passages chunks tos are ranges short =
    let text = flat_map text_of passages in
    let cuts = cuts_of_passages cell 0 0 passages in
    let below = starts-below limits cuts (length text) text_start chunks (between-up_to (length text) 0 cuts (subst (AreCutsBetween 0 cuts) (let e : 0 + length text ≡ length text = omega arith in e) (passages-between cell 0 0 passages))) (omega arith) are in
    by-ranges wanted text 0 tos chunks ranges (rise chunks are) (farther chunks below) ∙ all-from (own_line wanted text) chunks
  where
    rise : (cs : List Chunk) → AreChunks limits (cuts_of_passages cell 0 0 passages) text_start cs → Rise (own_line wanted (flat_map text_of passages)) cs
    rise [] is = tt
    rise (c ∷ cs) is = chunks-start-past limits (cuts_of_passages cell 0 0 passages) text_start c cs (passages-rising cell 0 0 passages) (omega arith) is

    farther : (cs : List Chunk) → StartBelow (length (flat_map text_of passages)) cs → StartBelow (end_of_ranges 0 tos) cs
    farther [] below = tt
    farther (c ∷ cs) below = (let first = below.0 in omega (arith, first, short), farther cs below.1)
