-- The words among the pieces of a passage.
use Rattle.std.proofs.Common.{◌≡◌, ℕ, ◌+◌, ◌||◌, true, false, cond, List, [], ◌∷◌, ◌++◌, length}
use Rattle.std.proofs.Common.{length-append, map, refl, sym, ap, ap₂, subst, ◌∙◌, arith}
use Rattle.std.specs.List.{concat, list_any}
use Rattle.std.specs.Str.{chars, encode_utf8_all}
use Rattle.std.proofs.lemmas.Str.{chars-encodes, encodes-append}
use lib.Utf8.{scalars}
use Rattle.unicode_segmentation.specs.Segments.{segments}
use Rattle.lbk_rules.specs.declared.Cell.{Cell}
use Rattle.lbk_passage.specs.Pieces.{is_word, pieces_from, pieces_of}
use Rattle.lbk_words.specs.Letters.{has_letter}
use Rattle.lbk_words.specs.Words.{parts_of, words_in}
use Rattle.lbk_words.proofs.WellFormedLemmas.{concat-parts, scalars-split}
use Rattle.lbk_chunk_reader.specs.Agreement.{AgreeOnLetters}
use Rattle.lbk_chunk_reader.specs.PassageWords.{words_in_pieces}

same-letters : (cell : ℕ → Cell) (cs : List ℕ) → AgreeOnLetters cell cs
    → has_letter cs ≡ list_any (λ c. (cell c).letter) cs
same-letters cell [] agree = refl
same-letters cell (c ∷ cs) agree = ap₂ (λ a b. a || b) (sym agree.0) (same-letters cell cs agree.1)

pub agree-split : (cell : ℕ → Cell) (cs ds : List ℕ) → AgreeOnLetters cell (cs ++ ds) → AgreeOnLetters cell cs
    × AgreeOnLetters cell ds
agree-split cell [] ds agree = (tt, agree)
agree-split cell (c ∷ cs) ds agree = let rest = agree-split cell cs ds agree.1 in ((agree.0, rest.0), rest.1)

-- some parts of a passage that begins at `start`, the first at its byte `at`
in-pieces : (cell : ℕ → Cell) (start at : ℕ) (parts : List (List ℕ)) → scalars (concat parts) ≡ true
    → AgreeOnLetters cell (concat parts)
    → words_in (start + at) (map encode_utf8_all parts)
    ≡ words_in_pieces start (pieces_from cell at (map encode_utf8_all parts))
in-pieces cell start at [] all agree = refl
in-pieces cell start at (part ∷ parts) all agree =
    let good = scalars-split part (concat parts) all in
    let both = agree-split cell part (concat parts) agree in
    let bytes = encode_utf8_all part in
    let own : chars bytes ≡ part = chars-encodes part good.0 in
    let same : has_letter (chars bytes) ≡ is_word cell bytes =
    ap has_letter own ∙ same-letters cell part both.0 ∙ ap (list_any (λ c. (cell c).letter)) (sym own) in
    let place : start + at + length bytes ≡ start + (at + length bytes) = omega arith in
    ap₂ (λ b n. cond b (record { start = start + at; end = n } ∷ words_in n (map encode_utf8_all parts))
    (words_in n (map encode_utf8_all parts))) same place
    ∙ ap (λ more. cond (is_word cell bytes) (record { start = start + at; end = start + (at + length bytes) } ∷ more)
    more)
    (in-pieces cell start (at + length bytes) parts good.1 both.1)

-- the parts of a passage's scalars
pub words-of-passage : (cell : ℕ → Cell) (start : ℕ) (cs : List ℕ) → scalars cs ≡ true → AgreeOnLetters cell cs
    → words_in start (map encode_utf8_all (parts_of cs)) ≡ words_in_pieces start (pieces_of cell (encode_utf8_all cs))
unfolding pieces_of segments
words-of-passage cell start cs all agree =
    let parts = parts_of cs in
    let same : concat parts ≡ cs = concat-parts [] cs [] in
    let place : start ≡ start + 0 = omega arith in
    ap (λ n. words_in n (map encode_utf8_all parts)) place
    ∙ in-pieces cell start 0 parts (ap scalars same ∙ all) (subst (AgreeOnLetters cell) (sym same) agree)
    ∙ ap (λ l. words_in_pieces start (pieces_from cell 0 (map encode_utf8_all (parts_of l))))
    (sym (chars-encodes cs all))

pub words-in-append : (at : ℕ) (ps qs : List (List ℕ))
    → words_in at (ps ++ qs) ≡ words_in at ps ++ words_in (at + length (concat ps)) qs
words-in-append at [] qs = ap (λ n. words_in n qs) (let e : at ≡ at + 0 = omega arith in e)
words-in-append at (p ∷ ps) qs =
    let end = at + length p in
    let place : end + length (concat ps) ≡ at + length (p ++ concat ps) = omega (arith, length-append p (concat ps)) in
    let rest : words_in end (ps ++ qs) ≡ words_in end ps ++ words_in (at + length (p ++ concat ps)) qs =
    words-in-append end ps qs ∙ ap (λ n. words_in end ps ++ words_in n qs) place in
    elim (has_letter (chars p))
    as (λ b. cond b (record { start = at; end = end } ∷ words_in end (ps ++ qs)) (words_in end (ps ++ qs))
    ≡ cond b (record { start = at; end = end } ∷ words_in end ps) (words_in end ps)
    ++ words_in (at + length (p ++ concat ps)) qs)
    [ true ↦ ap (λ l. record { start = at; end = end } ∷ l) rest | false ↦ rest ]

concat-encodes : (parts : List (List ℕ)) → concat (map encode_utf8_all parts) ≡ encode_utf8_all (concat parts)
concat-encodes [] = refl
concat-encodes (part ∷ parts) = ap (λ l. encode_utf8_all part ++ l) (concat-encodes parts)
    ∙ sym (encodes-append part (concat parts))

-- the parts of some scalars, joined, are their bytes
pub bytes-of-parts : (cs : List ℕ) → concat (map encode_utf8_all (parts_of cs)) ≡ encode_utf8_all cs
bytes-of-parts cs = concat-encodes (parts_of cs) ∙ ap encode_utf8_all (concat-parts [] cs [])
