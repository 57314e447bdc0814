-- The words of the parts of a text of any bytes, joined.
use Rattle.std.proofs.Common.{◌≡◌, ℕ, ◌+◌, ◌≤◌, true, false, cond, List, [], ◌∷◌, ◌++◌, length, map, take, drop, refl}
use Rattle.std.proofs.Common.{sym, ap, ap₂, ◌∙◌, arith, length-append, length-drop, take-append-drop}
use Rattle.std.specs.List.{concat, flat_map}
use Rattle.std.proofs.lemmas.List.{drop-append-le, length-map, map-append, take-append-le}
use Rattle.std.proofs.lemmas.Grind.{flat_map-append}
use Rattle.bstr.specs.Utf8.{Decoded, or_replacement, pieces}
use Rattle.lbk_rules.specs.declared.Cell.{Cell}
use Rattle.lbk_rules.specs.declared.Verdict.{Verdict}
use Rattle.lbk_values.specs.declared.profile.Profile.TheVariants.{First}
use Rattle.lbk_rules.specs.Joins.{end_before_more, must_end_between, with_last}
use Rattle.lbk_rules.specs.Marks.{Marked, ended, scalars_of}
use Rattle.lbk_rules.proofs.MarkLemmas.{scalars-ended}
use Rattle.lbk_passage.specs.Passages.{passages}
use Rattle.lbk_passage.proofs.Joining.{joined-passages}
use Rattle.lbk_streams.specs.Cuts.{EndsBefore}
use Rattle.lbk_streams.proofs.PieceStartLemmas.{sizes-front}
use Rattle.lbk_words.specs.Letters.{has_letter}
use Rattle.lbk_words.specs.Words.{bytes_of, parts_of, words_among, words_of}
use Rattle.lbk_words.specs.Words.{scalars_of as scalars_read}
use Rattle.lbk_words.proofs.WalkLemmas.{bytes-append, bytes-sizes}
use Rattle.lbk_words.proofs.WellFormedLemmas.{concat-parts}
use Rattle.lbk_chunk_reader.specs.Agreement.{AgreeOnLines}
use Rattle.lbk_chunk_reader.specs.PassageWords.{moved_word}
use Rattle.lbk_chunk_reader.proofs.Seams.{parts-of-passages}

abbrev parts_in : List (List Marked) → List (List ℕ)
parts_in passages = flat_map (λ p. parts_of (scalars_of p)) passages

same-parts : (end : Verdict) (ps : List (List Marked)) → parts_in (with_last (ended end) ps) ≡ parts_in ps
same-parts end [] = refl
same-parts end (p ∷ []) = ap (λ cs. parts_of cs ++ []) (scalars-ended end p)
same-parts end (p ∷ q ∷ ps) = ap (λ l. parts_of (scalars_of p) ++ l) (same-parts end (q ∷ ps))

joined-parts : (cell : ℕ → Cell) (first second : List ℕ) → AgreeOnLines cell → must_end_between cell first second ≡ true
    → parts_of (first ++ second) ≡ parts_of first ++ parts_of second
unfolding passages
joined-parts cell first second agree must =
    let whole = parts-of-passages First cell agree in
    whole (first ++ second)
    ∙ ap parts_in (joined-passages First cell first second must)
    ∙ flat_map-append (λ p. parts_of (scalars_of p))
    (with_last (ended (end_before_more cell first)) (passages First cell first)) (passages First cell second)
    ∙ ap₂ (λ xs ys. xs ++ ys) (same-parts (end_before_more cell first) (passages First cell first) ∙ sym (whole first))
    (sym (whole second))

among-append : (at : ℕ) (reads more : List Decoded) (parts others : List (List ℕ))
    → length (concat parts) ≡ length reads
    → words_among at (reads ++ more) (parts ++ others) ≡ words_among at reads parts ++ words_among (at + bytes_of reads)
    more others
among-append at [] more [] others same =
    ap (λ n. words_among n more others) (let place : at ≡ at + 0 = omega arith in place)
among-append at (r ∷ reads) more [] others same = absurd (let no : ⊥ = omega arith in no)
among-append at reads more (part ∷ parts) others same =
    let n = length part in
    let split = length-append part (concat parts) in
    let front : take n (reads ++ more) ≡ take n reads = take-append-le n reads more (omega arith) in
    let behind : drop n (reads ++ more) ≡ drop n reads ++ more = drop-append-le n reads more (omega arith) in
    let end = at + bytes_of (take n reads) in
    let size = ap bytes_of (sym (take-append-drop n reads)) ∙ bytes-append (take n reads) (drop n reads) in
    let place : end + bytes_of (drop n reads) ≡ at + bytes_of reads = omega arith in
    let rest : words_among end (drop n reads ++ more) (parts ++ others) ≡ words_among end (drop n reads) parts
    ++ words_among (at + bytes_of reads) more others =
    among-append end (drop n reads) more parts others (omega (arith, length-drop n reads))
    ∙ ap (λ k. words_among end (drop n reads) parts ++ words_among k more others) place in
    ap₂ (λ f b. cond (has_letter part) (record { start = at; end = at + bytes_of f } ∷ words_among (at + bytes_of f) b
    (parts ++ others))
    (words_among (at + bytes_of f) b (parts ++ others))) front behind
    ∙ ap (λ l. cond (has_letter part) (record { start = at; end = end } ∷ l) l) rest
    ∙ elim (has_letter part)
    as (λ b. cond b (record { start = at; end = end }
    ∷ (words_among end (drop n reads) parts ++ words_among (at + bytes_of reads) more others))
    (words_among end (drop n reads) parts ++ words_among (at + bytes_of reads) more others)
    ≡ cond b (record { start = at; end = end } ∷ words_among end (drop n reads) parts)
    (words_among end (drop n reads) parts)
    ++ words_among (at + bytes_of reads) more others)
    [ true ↦ refl | false ↦ refl ]

among-moved : (place at : ℕ) (reads : List Decoded) (parts : List (List ℕ))
    → words_among (place + at) reads parts ≡ map (moved_word place) (words_among at reads parts)
among-moved place at reads [] = refl
among-moved place at reads (part ∷ parts) =
    let n = length part in
    let end = at + bytes_of (take n reads) in
    let there : place + at + bytes_of (take n reads) ≡ place + end = omega arith in
    let rest = words_among end (drop n reads) parts in
    ap (λ k. cond (has_letter part) (record { start = place + at; end = k } ∷ words_among k (drop n reads) parts)
    (words_among k (drop n reads) parts)) there
    ∙ ap (λ l. cond (has_letter part) (record { start = place + at; end = place + end } ∷ l) l)
    (among-moved place end (drop n reads) parts)
    ∙ elim (has_letter part)
    as (λ b. cond b (record { start = place + at; end = place + end } ∷ map (moved_word place) rest)
    (map (moved_word place) rest)
    ≡ map (moved_word place) (cond b (record { start = at; end = end } ∷ rest) rest))
    [ true ↦ refl | false ↦ refl ]

pub words-in-parts : (cell : ℕ → Cell) (text : List ℕ) (place : ℕ) → AgreeOnLines cell → place ≤ length text
    → EndsBefore cell text place
    → words_of text ≡ words_of (take place text) ++ map (moved_word place) (words_of (drop place text))
words-in-parts cell text place agree within ends =
    let before = pieces (take place text) in
    let behind = pieces (drop place text) in
    let size = bytes-sizes before ∙ sizes-front text place within in
    let at : 0 + bytes_of before ≡ place + 0 = omega arith in
    ap (λ ps. words_among 0 ps (parts_of (scalars_read ps))) ends.0
    ∙ ap (λ cs. words_among 0 (before ++ behind) (parts_of cs))
    (map-append (λ (p : Decoded). or_replacement p.char) before behind)
    ∙ ap (words_among 0 (before ++ behind)) (joined-parts cell (scalars_read before) (scalars_read behind) agree ends.1)
    ∙ among-append 0 before behind (parts_of (scalars_read before)) (parts_of (scalars_read behind))
    (ap length (concat-parts [] (scalars_read before) []) ∙ length-map before (λ (p : Decoded). or_replacement p.char))
    ∙ ap (λ n. words_of (take place text) ++ words_among n behind (parts_of (scalars_read behind))) at
    ∙ ap (λ l. words_of (take place text) ++ l) (among-moved place 0 behind (parts_of (scalars_read behind)))
