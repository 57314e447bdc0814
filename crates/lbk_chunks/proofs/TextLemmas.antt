-- The start of a text.
use Rattle.std.proofs.Common.{◌≡◌, ℕ, zero, suc, ◌+◌, ◌<◌, ◌≤◌, Bool, true, false, cond, List, [], ◌∷◌, length, drop, take, refl, sym, subst, arith, length-drop}
use Rattle.bstr.specs.Utf8.{Decoded, decoded, pieces, lossy_chars}
use Rattle.bstr.proofs.lemmas.PieceLemmas.{piece-bounds, pieces-nil, pieces-step}
use Rattle.lbk_rules.specs.declared.Break.{Break}
use Rattle.lbk_rules.specs.declared.Cell.{Cell}
use Rattle.lbk_rules.specs.declared.neighbours.Neighbours.{Neighbours}
use Rattle.lbk_values.specs.declared.profile.Profile.{Profile}
use Rattle.lbk_rules.specs.Breaks.{break_by, is_no}
use Rattle.lbk_rules.specs.FlatTable.{IsFlatBy}
use Rattle.lbk_rules.specs.Marks.{Marked, marks}
use Rattle.lbk_bytes.specs.Bytes.{breaks_after, breaks_of_bytes}
use Rattle.lbk_calls.specs.State.{start_in}
use Rattle.lbk_calls.proofs.UnitsComingLemmas.{bytes-begin}
use Rattle.lbk_words.specs.declared.word.Word.{Word}
use Rattle.lbk_words.specs.Letters.{has_letter}
use Rattle.lbk_words.specs.Words.{bytes_of, parts_of, scalars_of, words_among, words_of}
use Rattle.lbk_chunks.specs.declared.chunk.Chunk.{Chunk}
use Rattle.lbk_chunks.specs.declared.chunk.ChunkState.{ChunkState}
use Rattle.lbk_chunks.specs.declared.chunk.Limits.{Limits}
use Rattle.lbk_chunks.specs.declared.cut.Cut.{Cut}
use Rattle.lbk_chunks.specs.Chunks.{AreChunks, are_limits, text_start}
use Rattle.lbk_chunks.specs.Coming.{AreBreaksPast, AreCutsPast, AreOnward, ChunksCome, IsAt, state_start}
use Rattle.lbk_chunks.specs.Cuts.{cuts_among, cuts_of, is_within, words_before}
use Rattle.lbk_chunks.proofs.CursorLemmas.{breaks-past}
use Rattle.lbk_chunks.proofs.CutLemmas.{cuts-from, past-all}
use Rattle.lbk_chunks.proofs.WordLemmas.{cut_by, onward-from}

-- the words of a text stand one behind the other
onward-by : (b : Bool) (at end : ℕ) (others : List Word) → at ≤ end → AreOnward end others → AreOnward at (cond b (record { start = at; end = end } ∷ others) others)
onward-by true at end others below onward = (omega arith, below, onward)
onward-by false at end others below onward = onward-from at end others below onward

words-onward : (at : ℕ) (reads : List Decoded) (parts : List (List ℕ)) → AreOnward at (words_among at reads parts)
words-onward at reads [] = tt
words-onward at reads (part ∷ parts) =
    let end = at + bytes_of (take (length part) reads) in
    onward-by (has_letter part) at end (words_among end (drop (length part) reads) parts) (omega arith) (words-onward end (drop (length part) reads) parts)

-- each piece has a byte
abbrev AreSome : List Decoded → Type 0
AreSome [] = Unit {0}
AreSome (p ∷ ps) = (1 ≤ p.size) × AreSome ps

pieces-some : (n : ℕ) (bs : List ℕ) → length bs ≤ n → AreSome (pieces bs)
pieces-some n [] few = subst AreSome (sym pieces-nil) tt
pieces-some zero (b ∷ bs) few = absurd (omega arith)
pieces-some (suc n) (b ∷ bs) few =
    let bounds = piece-bounds (b ∷ bs) (omega arith) in
    let size = (decoded (b ∷ bs)).size in
    subst AreSome (sym (pieces-step (b ∷ bs) (omega arith)))
    (bounds.0, pieces-some n (drop size (b ∷ bs)) (omega (arith, bounds.0, length-drop size (b ∷ bs))))

-- the breaks of a text stand one behind the other
past-by : (b : Bool) (at size : ℕ) (found : Break) (more : List Break) → found.at ≡ at + size → 1 ≤ size → AreBreaksPast (at + size) more
    → AreBreaksPast at (cond b more (found ∷ more))
past-by true at size found more is some past = breaks-past at (at + size) more (omega arith) past
past-by false at size found more is some past = (omega arith, subst (λ n. AreBreaksPast n more) (sym is) past)

breaks-rising : (at : ℕ) (ps : List Decoded) (ms : List Marked) → AreSome ps → AreBreaksPast at (breaks_after at ps ms)
breaks-rising at [] ms some = tt
breaks-rising at (p ∷ ps) [] some = tt
breaks-rising at (p ∷ ps) (m ∷ ms) some =
    past-by (is_no m.after.kind) at p.size (break_by (at + p.size) m.after) (breaks_after (at + p.size) ps ms) refl some.0 (breaks-rising (at + p.size) ps ms some.1)

-- and so do the cuts
cuts-by : (within : Bool) (at : ℕ) (c : Cut) (more : List Cut) → at < c.at → AreCutsPast c.at more → AreCutsPast at (cond within more (c ∷ more))
cuts-by true at c more below past = cuts-from at c.at more (omega arith) past
cuts-by false at c more below past = (below, past)

cuts-rising : (at count : ℕ) (ws : List Word) (bs : List Break) → AreBreaksPast at bs → AreCutsPast at (cuts_among count ws bs)
cuts-rising at count ws [] past = tt
cuts-rising at count ws (b ∷ bs) past =
    cuts-by (is_within ws b.at) at (cut_by b (count + words_before ws b.at)) (cuts_among count ws bs) past.0 (cuts-rising b.at count ws bs past.1)

pub text-rising : (profile : Profile) (cell : ℕ → Cell) (text : List ℕ) → AreCutsPast 0 (cuts_of profile cell text)
text-rising profile cell text =
    cuts-rising 0 0 (words_of text) (breaks_of_bytes profile cell text)
    (breaks-rising 0 (pieces text) (marks profile cell (lossy_chars text)) (pieces-some (length text) text (omega arith)))

stands-at_start : (cell : ℕ → Cell) (kinds : List ℕ) (pairs : Neighbours) (text : List ℕ) (profile : Profile) → IsFlatBy kinds pairs cell
    → IsAt cell kinds pairs text (cuts_of profile cell text) (state_start profile)
stands-at_start cell kinds pairs text profile flat =
    let rising = text-rising profile cell text in
    record {
      ahead = record {
        breaks = breaks_of_bytes profile cell text;
        comes = (bytes-begin kinds pairs text (start_in profile)).start cell profile flat refl;
        counted = record { few = omega arith; onward = words-onward 0 (pieces text) (parts_of (scalars_of (pieces text))) };
        rising = breaks-rising 0 (pieces text) (marks profile cell (lossy_chars text)) (pieces-some (length text) text (omega arith));
        among = past-all 0 0 (cuts_of profile cell text) (omega arith) rising;
      };
      counted = λ c same cut. absurd (omega (arith, same, cut.some));
      rising = rising;
      told = omega arith;
    }

pub chunks-start : (cell : ℕ → Cell) (kinds : List ℕ) (pairs : Neighbours) (text : List ℕ) (limits : Limits) (profile : Profile) (state : ChunkState) (to_come : List Chunk)
    → IsFlatBy kinds pairs cell → are_limits limits ≡ true → state ≡ state_start profile → AreChunks limits (cuts_of profile cell text) text_start to_come
    → ChunksCome cell kinds pairs text limits state to_come
chunks-start cell kinds pairs text limits profile state to_come flat in_range starts are =
    subst (λ s. ChunksCome cell kinds pairs text limits s to_come) (sym starts) (record {
      in_range = in_range;
      cuts = cuts_of profile cell text;
      stands = stands-at_start cell kinds pairs text profile flat;
      chunks = are;
    })
