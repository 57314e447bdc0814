-- The words of any bytes, read as UTF-8: the parts between neighbouring word boundaries (UAX #29, section 4) that
-- have a letter or a number. Each longest piece of the bytes that begins no scalar is read as U+FFFD (Unicode
-- Standard, section 3.9, table 3-7) and keeps its own bytes.
use Rattle.std.specs.Prelude.{◌≡◌, ℕ, ◌+◌, ◌<◌, ◌≤◌, List, [], ◌∷◌, ◌++◌, drop, length, map, take, if◌then◌else◌}
use Rattle.std.specs.Str.{chars}
use Rattle.bstr.specs.Utf8.{Decoded, or_replacement, pieces}
use Rattle.unicode_segmentation.specs.Segments.{cut}
use Rattle.unicode_segmentation.specs.Word.{is_word_break}
use Rattle.lbk_words.specs.declared.word.Word.{Word}
use Rattle.lbk_words.specs.Letters.{has_letter}

-- the scalars that some bytes are read as
abbrev pub scalars_of : List Decoded → List ℕ
scalars_of reads = map (λ p. or_replacement p.char) reads

-- how many bytes they take
abbrev pub bytes_of : List Decoded → ℕ
bytes_of [] = 0
bytes_of (p ∷ ps) = p.size + bytes_of ps

-- some scalars cut at their word boundaries
abbrev pub parts_of : List ℕ → List (List ℕ)
parts_of scalars = cut is_word_break [] scalars []

-- the words among parts, of which the first begins at byte `at`, and whose scalars are read from bytes as `reads` has
-- it
abbrev pub words_among : ℕ → List Decoded → List (List ℕ) → List Word
words_among at reads [] = []
words_among at reads (part ∷ parts) =
    let end = at + bytes_of (take (length part) reads) in
    let others = words_among end (drop (length part) reads) parts in
    if has_letter part then record { start = at; end = end } ∷ others else others

-- the words of a text that is taken alone from the byte `at` on; their places count from the text's start
abbrev pub words_on : List ℕ → ℕ → List Word
words_on text at = words_among at (pieces (drop at text)) (parts_of (scalars_of (pieces (drop at text))))

-- these words stand one after the other between the bytes `from` and `to`, and each has a byte at least
abbrev pub AreRising : ℕ → ℕ → List Word → Type 0
AreRising from to [] = from ≤ to
AreRising from to (word ∷ words) = (from ≤ word.start) × (word.start < word.end) × AreRising word.end to words

-- the words of a text
abbrev pub words_of : List ℕ → List Word
words_of text = words_on text 0

-- the scalars from a byte on
abbrev pub scalars_on : List ℕ → ℕ → List ℕ
scalars_on text at = scalars_of (pieces (drop at text))

-- of a text that is taken alone from the byte `from` on, word boundaries stand at its start and its end, and at the
-- byte `to`: some of its parts are before it, and the others are those from there on
pub record IsBoundary (text : List ℕ) (from to : ℕ) : Type 0 where
  pub reads : List Decoded
  pub read : pieces (drop from text) ≡ reads ++ pieces (drop to text)
  pub place : to ≡ from + bytes_of reads
  pub parts : List (List ℕ)
  pub cut : parts_of (scalars_on text from) ≡ parts ++ parts_of (scalars_on text to)

-- the words among pieces of well-formed text, each as its bytes, of which the first begins at byte `at`
abbrev pub words_in : ℕ → List (List ℕ) → List Word
words_in at [] = []
words_in at (piece ∷ pieces) =
    let end = at + length piece in
    let others = words_in end pieces in
    if has_letter (chars piece) then record { start = at; end = end } ∷ others else others
