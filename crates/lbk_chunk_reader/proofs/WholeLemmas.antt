-- The cuts of passages, one behind the other, are those of the whole text.
use Rattle.std.proofs.Common.{◌≡◌, ℕ, ◌+◌, ◌<◌, ◌≤◌, Bool, true, false, cond, nat_le, List, [], ◌∷◌, ◌++◌, length, map}
use Rattle.std.proofs.Common.{IsUtf8, chars, encode_utf8, encode_utf8_all, refl, sym, ap, ap₂, subst, ◌∙◌, arith}
use Rattle.std.proofs.Common.{length-append}
use Rattle.std.specs.List.{concat, flat_map}
use Rattle.std.proofs.lemmas.Bool.{false≢true}
use Rattle.std.proofs.lemmas.Bool.Decides.{nat_tests}
use Rattle.std.proofs.lemmas.List.Sums.{sum_by-cons}
use Rattle.std.proofs.lemmas.Str.{chars-encodes}
use lib.Utf8.{scalars}
use Rattle.unicode_segmentation.specs.Segments.{segments}
use Rattle.unicode_segmentation.specs.Word.{word_bounds}
use Rattle.lbk_rules.specs.declared.Break.{Break}
use Rattle.lbk_rules.specs.declared.Cell.{Cell}
use Rattle.lbk_values.specs.declared.profile.Profile.{Profile}
use Rattle.lbk_bytes.specs.Bytes.{breaks_of_bytes}
use Rattle.lbk_passage.specs.Breaks.{breaks}
use Rattle.lbk_passage.specs.Laws.{break_at, segment_breaks}
use Rattle.lbk_passage.specs.Marks.{Marked, scalars_of, text_of}
use Rattle.lbk_passage.specs.Passages.{passages}
use Rattle.lbk_passage.specs.Pieces.{is_word, pieces_from, pieces_of}
use Rattle.lbk_passage.specs.Segments.{segments_of}
use Rattle.lbk_passage.proofs.FoundLemmas.{breaks-encoded}
use Rattle.lbk_passage.proofs.Together.{passages-breaks, passages-scalars}
use Rattle.lbk_words.specs.declared.word.Word.{Word}
use Rattle.lbk_words.proofs.WellFormedLemmas.{scalars-split}
use Rattle.lbk_chunk_reader.specs.Agreement.{AgreeOnLetters, AgreeOnLines}
use Rattle.lbk_chunk_reader.specs.PassageWords.{words_in_pieces, words_of_passages}
use Rattle.lbk_chunk_reader.proofs.PieceWords.{bytes-of-parts}
use Rattle.lbk_chunk_reader.proofs.Whole.{words-whole}
use Rattle.lbk_chunks.specs.Coming.{AreBreaksPast}
use Rattle.lbk_chunks.specs.Cuts.{cuts_among, cuts_of, is_within, words_before}
use Rattle.lbk_chunks.proofs.WordLemmas.{cut_by, cuts-passed-first}
use Rattle.lbk_chunk_reader.specs.Between.{AreBreaksBetween}
use Rattle.lbk_chunk_reader.specs.Cuts.{cuts_of_passages}
use Rattle.lbk_chunk_reader.proofs.BetweenLemmas.{passage-breaks, breaks-ends, breaks-past-append}
use Rattle.lbk_chunk_reader.proofs.WordLemmas.{no-word}

-- Words that stand one behind the other, each with a byte, between two places

abbrev AreWordsBetween : ℕ → List Word → ℕ → Type 0
AreWordsBetween from [] to = from ≤ to
AreWordsBetween from (w ∷ ws) to = (from ≤ w.start) × (w.start < w.end) × AreWordsBetween w.end ws to

words-earlier : (from at : ℕ) (ws : List Word) (to : ℕ) → from ≤ at → AreWordsBetween at ws to
    → AreWordsBetween from ws to
words-earlier from at [] to below between = omega (arith, between)
words-earlier from at (w ∷ ws) to below between = (omega (arith, between.0), between.1, between.2)

words-end : (from : ℕ) (ws : List Word) (to : ℕ) → AreWordsBetween from ws to → from ≤ to
words-end from [] to between = between
words-end from (w ∷ ws) to between = let rest = words-end w.end ws to between.2 in
    omega (arith, between.0, between.1, rest)

words-append : (from : ℕ) (ws : List Word) (mid : ℕ) (more : List Word) (to : ℕ) → AreWordsBetween from ws mid
    → AreWordsBetween mid more to → AreWordsBetween from (ws ++ more) to
words-append from [] mid more to first second = words-earlier from mid more to first second
words-append from (w ∷ ws) mid more to first second =
    (first.0, first.1, words-append w.end ws mid more to first.2 second)

word-by : (b : Bool) (from size : ℕ) (ws : List Word) (to : ℕ) → (b ≡ true → 0 < size)
    → AreWordsBetween (from + size) ws to
    → AreWordsBetween from (cond b (record { start = from; end = from + size } ∷ ws) ws) to
word-by true from size ws to some between = (omega arith, (let has = some refl in omega arith), between)
word-by false from size ws to some between = words-earlier from (from + size) ws to (omega arith) between

is-some : (cell : ℕ → Cell) (part : List ℕ) → is_word cell part ≡ true → 0 < length part
is-some cell [] is = absurd (false≢true (sym (no-word cell) ∙ is))
is-some cell (b ∷ bs) is = omega arith

pieces-between : (cell : ℕ → Cell) (start at : ℕ) (parts : List (List ℕ))
    → AreWordsBetween (start + at) (words_in_pieces start (pieces_from cell at parts))
    (start + (at + length (concat parts)))
pieces-between cell start at [] = omega arith
pieces-between cell start at (part ∷ parts) =
    let size = length part in
    let rest = words_in_pieces start (pieces_from cell (at + size) parts) in
    let place : start + (at + size + length (concat parts)) ≡ start + (at + length (part ++ concat parts)) =
    omega (arith, length-append part (concat parts)) in
    let next : start + (at + size) ≡ (start + at) + size = omega arith in
    let more : AreWordsBetween ((start + at) + size) rest (start + (at + length (part ++ concat parts))) =
    subst (λ n. AreWordsBetween n rest (start + (at + length (part ++ concat parts)))) next
    (subst (AreWordsBetween (start + (at + size)) rest) place (pieces-between cell start (at + size) parts)) in
    subst (λ n. AreWordsBetween (start + at)
    (cond (is_word cell part) (record { start = start + at; end = n } ∷ rest) rest)
    (start + (at + length (part ++ concat parts)))) (sym next)
    (word-by (is_word cell part) (start + at) size rest (start + (at + length (part ++ concat parts)))
    (is-some cell part) more)

passage-words : (cell : ℕ → Cell) (start : ℕ) (cs : List ℕ) → scalars cs ≡ true
    → AreWordsBetween start (words_in_pieces start (pieces_of cell (encode_utf8_all cs)))
    (start + length (encode_utf8_all cs))
unfolding pieces_of segments
passage-words cell start cs all =
    let text = encode_utf8_all cs in
    let bytes : concat (word_bounds text) ≡ text = bytes-of-parts (chars text)
    ∙ ap encode_utf8_all (chars-encodes cs all) in
    let from : start + 0 ≡ start = omega arith in
    let to : start + (0 + length (concat (word_bounds text))) ≡ start + length text = omega (arith, ap length bytes) in
    let ws = words_in_pieces start (pieces_from cell 0 (word_bounds text)) in
    subst (λ n. AreWordsBetween n ws (start + length text)) from
    (subst (AreWordsBetween (start + 0) ws) to (pieces-between cell start 0 (word_bounds text)))

-- none of them is before a place at which or behind which they begin
none-at : (at from : ℕ) (ws : List Word) (to : ℕ) → at ≤ from → AreWordsBetween from ws to → (is_within ws at ≡ false)
    × (words_before ws at ≡ 0)
none-at at from [] to below between = (refl, refl)
none-at at from (w ∷ ws) to below between =
    let more = none-at at w.end ws to (omega (arith, between.0, between.1)) between.2 in
    let first = between.0 in
    let some = between.1 in
    let within : is_within (w ∷ ws) at ≡ false = grind (arith, nat_tests) in
    let before : words_before (w ∷ ws) at ≡ 0 = grind (arith, nat_tests) in
    (within, before)

-- so they do not change what stands before it
front-only : (at from : ℕ) (ws more : List Word) (to : ℕ) → at ≤ from → AreWordsBetween from more to
    → (is_within (ws ++ more) at ≡ is_within ws at) × (words_before (ws ++ more) at ≡ words_before ws at)
front-only at from [] more to below between = none-at at from more to below between
front-only at from (w ∷ ws) more to below between =
    let rest = front-only at from ws more to below between in
    let within : is_within (w ∷ (ws ++ more)) at ≡ is_within (w ∷ ws) at = grind (arith, nat_tests) in
    let one : Word → ℕ = λ v. cond (nat_le v.end at) 1 0 in
    let before : words_before (w ∷ (ws ++ more)) at ≡ words_before (w ∷ ws) at =
    sum_by-cons one w (ws ++ more) ∙ ap (λ n. one w + n) rest.1 ∙ sym (sum_by-cons one w ws) in
    (within, before)

-- Cuts joined

cuts-front : (count : ℕ) (ws more : List Word) (from mid : ℕ) (bs : List Break) (to : ℕ) → AreBreaksBetween from bs mid
    → AreWordsBetween mid more to
    → cuts_among count (ws ++ more) bs ≡ cuts_among count ws bs
cuts-front count ws more from mid [] to breaks words = refl
cuts-front count ws more from mid (b ∷ bs) to breaks words =
    let same = front-only b.at mid ws more to (breaks-ends b.at bs mid breaks.1) words in
    ap (λ l. cond (is_within (ws ++ more) b.at) l (cut_by b (count + words_before (ws ++ more) b.at) ∷ l))
    (cuts-front count ws more b.at mid bs to breaks.1 words)
    ∙ ap₂ (λ (w : Bool) (n : ℕ). cond w (cuts_among count ws bs) (cut_by b (count + n) ∷ cuts_among count ws bs)) same.0
    same.1

among-append : (count : ℕ) (ws : List Word) (bs cs : List Break)
    → cuts_among count ws (bs ++ cs) ≡ cuts_among count ws bs ++ cuts_among count ws cs
among-append count ws [] cs = refl
among-append count ws (b ∷ bs) cs = by (is_within ws b.at) (among-append count ws bs cs)
  where
    by : (w : Bool) → cuts_among count ws (bs ++ cs) ≡ cuts_among count ws bs ++ cuts_among count ws cs
        → cond w (cuts_among count ws (bs ++ cs))
        (cut_by b (count + words_before ws b.at) ∷ cuts_among count ws (bs ++ cs))
        ≡ cond w (cuts_among count ws bs) (cut_by b (count + words_before ws b.at) ∷ cuts_among count ws bs)
        ++ cuts_among count ws cs
    by true rest = rest
    by false rest = ap (λ l. cut_by b (count + words_before ws b.at) ∷ l) rest

-- the words of a first part were passed, before breaks behind it
all-passed : (count from : ℕ) (ws : List Word) (mid : ℕ) (more : List Word) (bs : List Break)
    → AreWordsBetween from ws mid → AreBreaksPast mid bs
    → cuts_among count (ws ++ more) bs ≡ cuts_among (count + length ws) more bs
all-passed count from ws mid more [] words past = refl
all-passed count from [] mid more (b ∷ bs) words past =
    ap (λ n. cuts_among n more (b ∷ bs)) (let same : count ≡ count + 0 = omega arith in same)
all-passed count from (w ∷ ws) mid more (b ∷ bs) words past =
    let ends = words-end w.end ws mid words.2 in
    sym (cuts-passed-first count w (ws ++ more) b bs (omega (arith, past.0)) past.1)
    ∙ all-passed (count + 1) w.end ws mid more (b ∷ bs) words.2 past
    ∙ ap (λ n. cuts_among n more (b ∷ bs)) (let same : count + 1 + length ws ≡ count + length (w ∷ ws) = omega arith in
    same)

-- where the text of some passages ends
abbrev end_of_all : ℕ → List (List Marked) → ℕ
end_of_all start [] = start
end_of_all start (ms ∷ ps) = end_of_all (start + length (text_of ms)) ps

all-words : (cell : ℕ → Cell) (start : ℕ) (ps : List (List Marked)) → scalars (flat_map scalars_of ps) ≡ true
    → AreWordsBetween start (words_of_passages cell start ps) (end_of_all start ps)
all-words cell start [] all = omega arith
all-words cell start (ms ∷ ps) all =
    let both = scalars-split (scalars_of ms) (flat_map scalars_of ps) all in
    let end = start + length (text_of ms) in
    words-append start (words_in_pieces start (pieces_of cell (text_of ms))) end (words_of_passages cell end ps)
    (end_of_all end ps)
    (passage-words cell start (scalars_of ms) both.0) (all-words cell end ps both.1)

all-breaks : (start : ℕ) (ps : List (List Marked)) → AreBreaksPast start (segment_breaks start ps)
all-breaks start [] = tt
all-breaks start (ms ∷ ps) =
    let end = start + length (text_of ms) in
    breaks-past-append start (map (break_at start) (segments_of ms)) end (segment_breaks end ps)
    (passage-breaks start ms) (all-breaks end ps)

cuts-joined : (cell : ℕ → Cell) (start count : ℕ) (ps : List (List Marked)) → scalars (flat_map scalars_of ps) ≡ true
    → cuts_among count (words_of_passages cell start ps) (segment_breaks start ps)
    ≡ cuts_of_passages cell start count ps
cuts-joined cell start count [] all = refl
cuts-joined cell start count (ms ∷ ps) all =
    let both = scalars-split (scalars_of ms) (flat_map scalars_of ps) all in
    let end = start + length (text_of ms) in
    let own = words_in_pieces start (pieces_of cell (text_of ms)) in
    let later = words_of_passages cell end ps in
    let bs = map (break_at start) (segments_of ms) in
    among-append count (own ++ later) bs (segment_breaks end ps)
    ∙ ap₂ (λ x y. x ++ y)
    (cuts-front count own later start end bs (end_of_all end ps) (passage-breaks start ms)
    (all-words cell end ps both.1))
    (all-passed count start own end later (segment_breaks end ps) (passage-words cell start (scalars_of ms) both.0)
    (all-breaks end ps)
    ∙ cuts-joined cell end (count + length own) ps both.1)

cuts-encoded : (profile : Profile) (cell : ℕ → Cell) (cs : List ℕ) → AgreeOnLines cell
    → AgreeOnLetters cell (chars (encode_utf8_all cs)) → scalars cs ≡ true
    → cuts_of profile cell (encode_utf8_all cs)
    ≡ cuts_of_passages cell 0 0 (passages profile cell (chars (encode_utf8_all cs)))
cuts-encoded profile cell cs lines letters all =
    let text = encode_utf8_all cs in
    let own : chars text ≡ cs = chars-encodes cs all in
    let ps = passages profile cell (chars text) in
    let good : scalars (flat_map scalars_of ps) ≡ true = ap scalars (passages-scalars profile cell (chars text) ∙ own)
    ∙ all in
    ap₂ (λ ws bs. cuts_among 0 ws bs) (words-whole profile cell text lines letters (cs, (all, refl)))
    (breaks-encoded profile cell cs all ∙ ap (breaks profile cell) (sym own)
    ∙ sym (passages-breaks profile cell (chars text)))
    ∙ cuts-joined cell 0 0 ps good

pub cuts-whole : (profile : Profile) (cell : ℕ → Cell) (text : List ℕ) → AgreeOnLines cell
    → AgreeOnLetters cell (chars text) → IsUtf8 text
    → cuts_of profile cell text ≡ cuts_of_passages cell 0 0 (passages profile cell (chars text))
cuts-whole profile cell text lines letters utf8 =
    subst (λ t. AgreeOnLetters cell (chars t)
    → cuts_of profile cell t ≡ cuts_of_passages cell 0 0 (passages profile cell (chars t))) utf8.1.1
    (λ own. cuts-encoded profile cell utf8.0 lines own utf8.1.0) letters
