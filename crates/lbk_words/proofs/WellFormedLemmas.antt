-- Well-formed text.
use Rattle.std.proofs.Common.{◌≡◌, ℕ, ◌+◌, ◌-◌, ◌<◌, Bool, true, false, cond, ◌&&◌, append_assoc, List, [], ◌∷◌, ◌++◌, drop, length, map, take, refl, sym, ap, ap₂, subst, ◌∙◌, arith}
use Rattle.std.specs.Char.{encode_utf8}
use Rattle.std.specs.List.{concat}
use Rattle.std.specs.Str.{IsUtf8, chars, encode_utf8_all}
use Rattle.std.proofs.lemmas.Bool.{and_parts}
use Rattle.std.proofs.lemmas.Bool.Decides.{nat_tests}
use Rattle.std.proofs.lemmas.List.{length-append, length-map, map-append, take_at}
use Rattle.std.proofs.lemmas.Str.{chars-encodes, encodes-append}
use Rattle.std.proofs.Math.Seq.{drop-append_seam, drop-drop}
use lib.Utf8.{scalar, scalars}
use Rattle.bstr.specs.Utf8.{Decoded, good, or_replacement, pieces}
use Rattle.bstr.proofs.lemmas.EncodeLemmas.{decoded-encode}
use Rattle.bstr.proofs.lemmas.PieceLemmas.{pieces-nil, pieces-step}
use Rattle.unicode_segmentation.specs.Segments.{cut, prepend, segments}
use Rattle.unicode_segmentation.specs.Word.{is_word_break, word_bounds}
use Rattle.lbk_words.specs.Letters.{has_letter}
use Rattle.lbk_words.specs.Places.{IsFirstPiece}
use Rattle.lbk_words.specs.Words.{bytes_of, parts_of, scalars_of, scalars_on, words_among, words_in, words_of}

-- a scalar as it is read from its own bytes
abbrev pub good_of : ℕ → Decoded
good_of c = good c (length (encode_utf8 c))

encode-some : (c : ℕ) → 0 < length (encode_utf8 c)
unfolding encode_utf8
encode-some c = grind (arith, nat_tests)

pub pieces-encode : (cs : List ℕ) → scalars cs ≡ true → pieces (encode_utf8_all cs) ≡ map good_of cs
pieces-encode [] all = pieces-nil
pieces-encode (c ∷ cs) all =
    let first = encode_utf8 c in
    let rest = encode_utf8_all cs in
    let some : 0 < length (first ++ rest) = omega (arith, encode-some c, length-append first rest) in
    let both = and_parts _ _ all in
    let read = decoded-encode c rest both.0 in
    pieces-step (first ++ rest) some
    ∙ ap (λ (p : Decoded). p ∷ pieces (drop p.size (first ++ rest))) read
    ∙ ap (λ l. good c (length first) ∷ pieces l) (drop-append_seam first rest)
    ∙ ap (λ l. good c (length first) ∷ l) (pieces-encode cs both.1)

pub scalars-good : (cs : List ℕ) → scalars_of (map good_of cs) ≡ cs
scalars-good [] = refl
scalars-good (c ∷ cs) = ap (λ l. c ∷ l) (scalars-good cs)

bytes-good : (cs : List ℕ) → bytes_of (map good_of cs) ≡ length (encode_utf8_all cs)
bytes-good [] = refl
bytes-good (c ∷ cs) = ap (λ n. length (encode_utf8 c) + n) (bytes-good cs) ∙ sym (length-append (encode_utf8 c) (encode_utf8_all cs))

pub scalars-split : (cs ds : List ℕ) → scalars (cs ++ ds) ≡ true → (scalars cs ≡ true) × (scalars ds ≡ true)
scalars-split [] ds all = (refl, all)
scalars-split (c ∷ cs) ds all =
    let both = and_parts (scalar c) (scalars (cs ++ ds)) all in
    let rest = scalars-split cs ds both.1 in
    (ap (λ b. scalar c && b) rest.0 ∙ ap (λ b. b && true) both.0, rest.1)

-- the scalars of all parts are those of the text
concat-prepend : (part : List ℕ) (parts : List (List ℕ)) → concat (prepend part parts) ≡ part ++ concat parts
concat-prepend part [] = refl
concat-prepend part (p ∷ ps) = append_assoc part p (concat ps)

pub concat-parts : (before cs after : List ℕ) → concat (cut is_word_break before cs after) ≡ cs
unfolding cut
concat-parts before [] after = refl
concat-parts before (c ∷ cs) after =
    let rest = cut is_word_break (c ∷ before) cs after in
    let on = concat-parts (c ∷ before) cs after in
    elim (is_word_break (c ∷ before) (cs ++ after)) as (λ b. concat (cond b ((c ∷ []) ∷ rest) (prepend (c ∷ []) rest)) ≡ c ∷ cs)
    [ true ↦ ap (λ l. c ∷ l) on | false ↦ concat-prepend (c ∷ []) rest ∙ ap (λ l. c ∷ l) on ]

among-good : (at : ℕ) (parts : List (List ℕ)) → scalars (concat parts) ≡ true
    → words_among at (map good_of (concat parts)) parts ≡ words_in at (map encode_utf8_all parts)
among-good at [] all = refl
among-good at (part ∷ parts) all =
    let both = scalars-split part (concat parts) all in
    let whole : map good_of (part ++ concat parts) ≡ map good_of part ++ map good_of (concat parts) = map-append good_of part (concat parts) in
    let count : length (map good_of part) ≡ length part = length-map part good_of in
    let front : take (length part) (map good_of (part ++ concat parts)) ≡ map good_of part =
    ap (take (length part)) whole ∙ take_at (map good_of part) (map good_of (concat parts)) (length part) count in
    let behind : drop (length part) (map good_of (part ++ concat parts)) ≡ map good_of (concat parts) =
    ap (drop (length part)) whole ∙ ap (λ n. drop n (map good_of part ++ map good_of (concat parts))) (sym count)
    ∙ drop-append_seam (map good_of part) (map good_of (concat parts)) in
    let size : bytes_of (take (length part) (map good_of (part ++ concat parts))) ≡ length (encode_utf8_all part) = ap bytes_of front ∙ bytes-good part in
    let own : part ≡ chars (encode_utf8_all part) = sym (chars-encodes part both.0) in
    let end = at + length (encode_utf8_all part) in
    ap₂ (λ n r. cond (has_letter part) (record { start = at; end = at + n } ∷ words_among (at + n) r parts) (words_among (at + n) r parts)) size behind
    ∙ ap₂ (λ p more. cond (has_letter p) (record { start = at; end = end } ∷ more) more) own (among-good end parts both.1)

encoded-words : (cs : List ℕ) → scalars cs ≡ true → words_of (encode_utf8_all cs) ≡ words_in 0 (word_bounds (encode_utf8_all cs))
unfolding segments
encoded-words cs all =
    let parts = parts_of cs in
    let same : concat parts ≡ cs = concat-parts [] cs [] in
    ap (λ ps. words_among 0 ps (parts_of (scalars_of ps))) (pieces-encode cs all)
    ∙ ap (λ l. words_among 0 (map good_of cs) (parts_of l)) (scalars-good cs)
    ∙ ap (λ l. words_among 0 (map good_of l) parts) (sym same)
    ∙ among-good 0 parts (ap scalars same ∙ all)
    ∙ ap (λ l. words_in 0 (map encode_utf8_all (parts_of l))) (sym (chars-encodes cs all))

-- of well-formed text the words are those among the pieces that it is cut into
pub words-utf8 : (text : List ℕ) → IsUtf8 text → words_of text ≡ words_in 0 (word_bounds text)
words-utf8 text utf8 = subst (λ t. words_of t ≡ words_in 0 (word_bounds t)) utf8.1.1 (encoded-words utf8.0 utf8.1.0)

-- some scalars are read at the front of well-formed text
module _ (text : List ℕ) (start end : ℕ) (part : List Decoded) (utf8 : IsUtf8 (drop start text)) (reads : pieces (drop start text) ≡ part ++ pieces (drop end text))
    (place : end ≡ start + bytes_of part) where
  abbrev cs : List ℕ
  cs = utf8.0

  abbrev own : List ℕ
  own = scalars_of part

  abbrev behind : List ℕ
  behind = scalars_on text end

  -- the scalars that are read are those of the text
  whole : pieces (drop start text) ≡ map good_of cs
  whole = ap pieces (sym utf8.1.1) ∙ pieces-encode cs utf8.1.0

  read : scalars_on text start ≡ cs
  read = ap scalars_of whole ∙ scalars-good cs

  split : own ++ behind ≡ cs
  split = sym (map-append (λ (p : Decoded). or_replacement p.char) part (pieces (drop end text))) ∙ ap scalars_of (sym reads) ∙ read

  both : (scalars own ≡ true) × (scalars behind ≡ true)
  both = scalars-split own behind (ap scalars split ∙ utf8.1.0)

  same : map good_of own ≡ part
  same =
      let count : length part ≡ length own = sym (length-map part (λ (p : Decoded). or_replacement p.char)) in
      sym (take_at (map good_of own) (map good_of behind) (length part) (length-map own good_of ∙ sym count))
      ∙ ap (take (length part)) (sym (map-append good_of own behind) ∙ ap (map good_of) split ∙ sym whole ∙ reads)
      ∙ take_at part (pieces (drop end text)) (length part) refl

  size : end - start ≡ length (encode_utf8_all own)
  size = (let taken = sym (bytes-good own) ∙ ap bytes_of same in omega (arith, place))

  bytes : drop start text ≡ encode_utf8_all own ++ encode_utf8_all behind
  bytes = sym utf8.1.1 ∙ ap encode_utf8_all (sym split) ∙ encodes-append own behind

  front : take (end - start) (drop start text) ≡ encode_utf8_all own
  front = ap (take (end - start)) bytes ∙ take_at (encode_utf8_all own) (encode_utf8_all behind) (end - start) (sym size)

  rest : encode_utf8_all behind ≡ drop end text
  rest =
      sym (drop-append_seam (encode_utf8_all own) (encode_utf8_all behind))
      ∙ ap₂ (λ n l. drop n l) (sym size) (sym bytes)
      ∙ drop-drop (end - start) start text
      ∙ ap (λ n. drop n text) (let e : start + (end - start) ≡ end = omega (arith, place) in e)

  -- they are those of the bytes that they take
  pub read-chars : chars (take (end - start) (drop start text)) ≡ scalars_of part
  read-chars = ap chars front ∙ chars-encodes own both.0

-- of well-formed text the first part is the first piece, and what is behind it is well-formed too
pub record IsFirstBound (text : List ℕ) (start end : ℕ) : Type 0 where
  pub utf8 : IsUtf8 (drop end text)
  pub bounds : word_bounds (drop start text) ≡ take (end - start) (drop start text) ∷ word_bounds (drop end text)

pub first-bound : (text : List ℕ) (start end : ℕ) (is_word : Bool) → IsUtf8 (drop start text) → IsFirstPiece text start end is_word → IsFirstBound text start end
unfolding segments
first-bound text start end is_word utf8 first =
    let cs = utf8.0 in
    let behind = scalars_on text end in
    let among = (both text start end first.part utf8 first.reads first.place).1 in
    let rest = rest text start end first.part utf8 first.reads first.place in
    record {
      utf8 = (behind, (among, rest));
      bounds =
          ap word_bounds (sym utf8.1.1)
          ∙ ap (λ l. map encode_utf8_all (parts_of l)) (chars-encodes cs utf8.1.0 ∙ sym (read text start end first.part utf8 first.reads first.place))
          ∙ ap (map encode_utf8_all) first.first
          ∙ ap₂ (λ x xs. x ∷ xs) (sym (front text start end first.part utf8 first.reads first.place))
          (ap (λ l. map encode_utf8_all (parts_of l)) (sym (chars-encodes behind among)) ∙ ap word_bounds rest);
    }
