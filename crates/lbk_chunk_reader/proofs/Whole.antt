-- The words of a whole text, passage by passage.
use Rattle.std.proofs.Common.{◌≡◌, ℕ, ◌+◌, true, List, [], ◌∷◌, ◌++◌, length, map, refl, sym, ap, ap₂, subst, ◌∙◌}
use Rattle.std.specs.List.{flat_map}
use Rattle.std.specs.Str.{IsUtf8, chars, encode_utf8_all}
use Rattle.std.proofs.lemmas.List.{map-append}
use Rattle.std.proofs.lemmas.Str.{chars-encodes}
use lib.Utf8.{scalars}
use Rattle.unicode_segmentation.specs.Segments.{segments}
use Rattle.unicode_segmentation.specs.Word.{word_bounds}
use Rattle.lbk_rules.specs.declared.Cell.{Cell}
use Rattle.lbk_values.specs.declared.profile.Profile.{Profile}
use Rattle.lbk_rules.specs.Marks.{Marked, scalars_of, text_of}
use Rattle.lbk_passage.specs.Passages.{passages}
use Rattle.lbk_passage.specs.Pieces.{pieces_of}
use Rattle.lbk_passage.proofs.Together.{passages-scalars}
use Rattle.lbk_words.specs.Words.{parts_of, words_in, words_of}
use Rattle.lbk_words.proofs.WellFormedLemmas.{scalars-split, words-utf8}
use Rattle.lbk_chunk_reader.specs.Agreement.{AgreeOnLetters, AgreeOnLines}
use Rattle.lbk_chunk_reader.specs.PassageWords.{words_in_pieces, words_of_passages}
use Rattle.lbk_chunk_reader.proofs.PieceWords.{agree-split, bytes-of-parts, words-in-append, words-of-passage}
use Rattle.lbk_chunk_reader.proofs.Seams.{parts-of-passages}

among-passages : (cell : ℕ → Cell) (start : ℕ) (ps : List (List Marked)) → scalars (flat_map scalars_of ps) ≡ true
    → AgreeOnLetters cell (flat_map scalars_of ps)
    → words_in start (map encode_utf8_all (flat_map (λ p. parts_of (scalars_of p)) ps))
    ≡ words_of_passages cell start ps
among-passages cell start [] all agree = refl
among-passages cell start (ms ∷ ps) all agree =
    let cs = scalars_of ms in
    let others = flat_map (λ p. parts_of (scalars_of p)) ps in
    let good = scalars-split cs (flat_map scalars_of ps) all in
    let both = agree-split cell cs (flat_map scalars_of ps) agree in
    ap (words_in start) (map-append encode_utf8_all (parts_of cs) others)
    ∙ words-in-append start (map encode_utf8_all (parts_of cs)) (map encode_utf8_all others)
    ∙ ap₂ (λ ws bytes. ws ++ words_in (start + length bytes) (map encode_utf8_all others))
    (words-of-passage cell start cs good.0 both.0) (bytes-of-parts cs)
    ∙ ap (λ ws. words_in_pieces start (pieces_of cell (text_of ms)) ++ ws)
    (among-passages cell (start + length (text_of ms)) ps good.1 both.1)

encoded-alone : (cell : ℕ → Cell) (cs : List ℕ) → scalars cs ≡ true → AgreeOnLetters cell (chars (encode_utf8_all cs))
    → words_in 0 (word_bounds (encode_utf8_all cs)) ≡ words_in_pieces 0 (pieces_of cell (encode_utf8_all cs))
unfolding segments
encoded-alone cell cs all agree =
    let own : chars (encode_utf8_all cs) ≡ cs = chars-encodes cs all in
    ap (λ l. words_in 0 (map encode_utf8_all (parts_of l))) own
    ∙ words-of-passage cell 0 cs all (subst (AgreeOnLetters cell) own agree)

pub words-alone : (cell : ℕ → Cell) (text : List ℕ) → AgreeOnLetters cell (chars text) → IsUtf8 text
    → words_of text ≡ words_in_pieces 0 (pieces_of cell text)
words-alone cell text agree utf8 =
    words-utf8 text utf8
    ∙ subst (λ t. AgreeOnLetters cell (chars t) → words_in 0 (word_bounds t) ≡ words_in_pieces 0 (pieces_of cell t))
    utf8.1.1 (encoded-alone cell utf8.0 utf8.1.0) agree

encoded-whole : (profile : Profile) (cell : ℕ → Cell) (cs : List ℕ) → AgreeOnLines cell → scalars cs ≡ true
    → AgreeOnLetters cell (chars (encode_utf8_all cs))
    → words_in 0 (word_bounds (encode_utf8_all cs))
    ≡ words_of_passages cell 0 (passages profile cell (chars (encode_utf8_all cs)))
unfolding segments passages
encoded-whole profile cell cs lines all agree =
    let own : chars (encode_utf8_all cs) ≡ cs = chars-encodes cs all in
    let same : flat_map scalars_of (passages profile cell cs) ≡ cs = passages-scalars profile cell cs in
    ap (λ l. words_in 0 (map encode_utf8_all (parts_of l))) own
    ∙ ap (λ l. words_in 0 (map encode_utf8_all l)) (parts-of-passages profile cell lines cs)
    ∙ among-passages cell 0 (passages profile cell cs) (ap scalars same ∙ all)
    (subst (AgreeOnLetters cell) (own ∙ sym same) agree)
    ∙ ap (λ l. words_of_passages cell 0 (passages profile cell l)) (sym own)

pub words-whole : (profile : Profile) (cell : ℕ → Cell) (text : List ℕ) → AgreeOnLines cell
    → AgreeOnLetters cell (chars text) → IsUtf8 text
    → words_of text ≡ words_of_passages cell 0 (passages profile cell (chars text))
words-whole profile cell text lines agree utf8 =
    words-utf8 text utf8
    ∙ subst (λ t. AgreeOnLetters cell (chars t)
    → words_in 0 (word_bounds t) ≡ words_of_passages cell 0 (passages profile cell (chars t))) utf8.1.1
    (encoded-whole profile cell utf8.0 lines utf8.1.0) agree
