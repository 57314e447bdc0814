-- What is read at a byte, and the first part from there on, scalar by scalar.
use Rattle.std.proofs.Common.{◌≡◌, ℕ, ◌+◌, ◌-◌, ◌<◌, ◌≤◌, Bool, true, false, ◌||◌, List, [], ◌∷◌, ◌++◌, append_assoc, drop, length, reverse, take, refl, sym, ap, ap₂, subst, ◌∙◌, arith}
use Rattle.std.specs.List.{list_any}
use Rattle.std.proofs.lemmas.List.{length-drop, map-append, reverse-append, take_all}
use Rattle.std.proofs.Math.ListN.{drop_of_length-le}
use Rattle.std.proofs.Math.Seq.{drop-drop}
use Rattle.bstr.specs.Utf8.{Decoded, decoded, or_replacement, pieces}
use Rattle.bstr.proofs.lemmas.PieceLemmas.{piece-bounds, pieces-nil, pieces-step, sizes}
use Rattle.ucd_breaks.specs.WordBreak.{word_break}
use Rattle.unicode_segmentation.specs.Segments.{cut, prepend}
use Rattle.unicode_segmentation.specs.Word.{is_word_break, significant, value_at}
use Rattle.unicode_segmentation.proofs.SegmentsLemmas.{attach}
use Rattle.lbk_words.specs.Contexts.{Context, breaks_by, context_after, context_of}
use Rattle.lbk_words.specs.Filling.{IsWalk, back}
use Rattle.lbk_words.specs.Letters.{has_letter, is_letter_or_number}
use Rattle.lbk_words.specs.Places.{IsFirstPiece, IsReadAt}
use Rattle.lbk_words.specs.Words.{bytes_of, parts_of, scalars_of, scalars_on}
use Rattle.lbk_words.proofs.Booleans.{or-false}
use Rattle.lbk_words.proofs.ContextLemmas.{context-after, decided-end, decided-inside}
use Rattle.lbk_words.proofs.FreshLemmas.{cut-fresh, cut-step}

-- The scalar at a byte

-- what is left of a text
pub rest-of : (text : List ℕ) (at : ℕ) → take (length text - at) (drop at text) ≡ drop at text
rest-of text at = take_all (length text - at) (drop at text) (omega (arith, length-drop at text))

pub piece-there : (text : List ℕ) (at c size : ℕ) → at < length text → c ≡ or_replacement (decoded (drop at text)).char
    → size ≡ (decoded (drop at text)).size → IsReadAt text at c (at + size)
piece-there text at c size inside is_char is_size =
    let left = length-drop at text in
    let some : 0 < length (drop at text) = omega arith in
    let bounds = piece-bounds (drop at text) some in
    record {
      grows = omega (arith, bounds.0);
      within = omega (arith, bounds.1);
      reads =
          pieces-step (drop at text) some
          ∙ ap (λ l. decoded (drop at text) ∷ pieces l) (drop-drop (decoded (drop at text)).size at text)
          ∙ ap (λ n. decoded (drop at text) ∷ pieces (drop (at + n) text)) (sym is_size);
      is = is_char;
      size = ap (λ n. at + n) is_size;
    }

-- the scalars go on with it
pub scalars-next : (text : List ℕ) (at c end : ℕ) → IsReadAt text at c end → scalars_on text at ≡ c ∷ scalars_on text end
scalars-next text at c end read = ap scalars_of read.reads ∙ ap (λ x. x ∷ scalars_on text end) (sym read.is)

-- at the end of the text there are none
pub scalars-end : (text : List ℕ) (at : ℕ) → length text ≤ at → scalars_on text at ≡ []
scalars-end text at past = ap (λ l. scalars_of (pieces l)) (drop_of_length-le text {i = at} past) ∙ ap scalars_of pieces-nil

-- The first part

-- how many bytes some pieces have, as it is counted elsewhere
pub bytes-sizes : (ps : List Decoded) → bytes_of ps ≡ sizes ps
unfolding sizes
bytes-sizes [] = refl
bytes-sizes (p ∷ ps) = ap (λ n. p.size + n) (bytes-sizes ps)

pub bytes-append : (ps qs : List Decoded) → bytes_of (ps ++ qs) ≡ bytes_of ps + bytes_of qs
bytes-append [] qs = omega arith
bytes-append (p ∷ ps) qs = let more = bytes-append ps qs in omega arith

-- whether one of some scalars is a letter, with one more
pub any-append : (letter : ℕ → Bool) (cs : List ℕ) (c : ℕ) → list_any letter (cs ++ c ∷ []) ≡ (list_any letter cs || letter c)
any-append letter [] c = or-false (letter c)
any-append letter (x ∷ cs) c = ap (λ b. letter x || b) (any-append letter cs c) ∙ sym (assoc (letter x))
  where
    assoc : (b : Bool) → ((b || list_any letter cs) || letter c) ≡ (b || (list_any letter cs || letter c))
    assoc true = refl
    assoc false = refl

prepend-attach : (xs ys : List ℕ) (b : Bool) (parts : List (List ℕ)) → prepend xs (attach b ys parts) ≡ attach b (xs ++ ys) parts
prepend-attach xs ys true parts = refl
prepend-attach xs ys false [] = refl
prepend-attach xs ys false (p ∷ ps) = ap (λ part. part ∷ ps) (sym (append_assoc xs ys p))

pub walk-as : (text : List ℕ) (start at : ℕ) (x y : Context) (a b : Bool) → IsWalk text start at x a → x ≡ y → a ≡ b → IsWalk text start at y b
walk-as text start at x y a b w same_context same_word =
    subst (λ k. IsWalk text start at k b) same_context (subst (λ v. IsWalk text start at x v) same_word w)

pub walk-start : (text : List ℕ) (start c end : ℕ) → IsReadAt text start c end
    → IsWalk text start end (context_after (context_of []) (word_break c)) (is_letter_or_number c)
walk-start text start c end read =
    let p = decoded (drop start text) in
    let x = or_replacement p.char in
    let rest = scalars_on text end in
    record {
      part = p ∷ [];
      grows = read.grows;
      within = read.within;
      reads = read.reads;
      place = read.size ∙ (let e : start + p.size ≡ start + (p.size + 0) = omega arith in e);
      knows = ap (λ d. context_after (context_of []) (word_break d)) read.is ∙ sym (context-after x []);
      some = (x, [], refl);
      first = ap parts_of (ap scalars_of read.reads) ∙ cut-step [] x rest;
      word = ap is_letter_or_number read.is ∙ sym (or-false (is_letter_or_number x));
    }

pub walk-step : (text : List ℕ) (start at c end : ℕ) (context : Context) (is_word : Bool) → (w : IsWalk text start at context is_word) → IsReadAt text at c end
    → breaks_by context c (value_at (significant (scalars_on text end)) 0) ≡ false
    → IsWalk text start end (context_after context (word_break c)) (is_word || is_letter_or_number c)
walk-step text start at c end context is_word w read joined =
    let p = decoded (drop at text) in
    let x = or_replacement p.char in
    let ps = w.part in
    let rest = scalars_on text end in
    let grown : scalars_of (ps ++ p ∷ []) ≡ scalars_of ps ++ x ∷ [] = map-append (λ (q : Decoded). or_replacement q.char) ps (p ∷ []) in
    let turned : back (ps ++ p ∷ []) ≡ x ∷ back ps = ap reverse grown ∙ reverse-append (scalars_of ps) (x ∷ []) in
    let inside : is_word_break (back ps) (scalars_on text at) ≡ false =
    ap₂ is_word_break w.some.2 (scalars-next text at c end read)
    ∙ decided-inside w.some.0 w.some.1 c rest
    ∙ ap (λ b. breaks_by (context_of b) c (value_at (significant rest) 0)) (sym w.some.2)
    ∙ ap (λ k. breaks_by k c (value_at (significant rest) 0)) (sym w.knows)
    ∙ joined in
    record {
      part = ps ++ p ∷ [];
      grows = (let on = w.grows in let more = read.grows in omega arith);
      within = read.within;
      reads = w.reads ∙ ap (λ l. ps ++ l) read.reads ∙ sym (append_assoc ps (p ∷ []) (pieces (drop end text)));
      place = (let sum = bytes-append ps (p ∷ []) in let here = w.place in let size = read.size in omega arith);
      knows =
          ap₂ (λ k d. context_after k (word_break d)) w.knows read.is
          ∙ sym (context-after x (back ps)) ∙ ap context_of (sym turned);
      some = (x, back ps, turned);
      first =
          w.first
          ∙ ap (λ b. attach b (scalars_of ps) (cut is_word_break (back ps) (scalars_on text at) [])) inside
          ∙ ap (λ l. prepend (scalars_of ps) (cut is_word_break (back ps) l [])) (ap scalars_of read.reads)
          ∙ ap (prepend (scalars_of ps)) (cut-step (back ps) x rest)
          ∙ prepend-attach (scalars_of ps) (x ∷ []) (is_word_break (x ∷ back ps) rest) (cut is_word_break (x ∷ back ps) rest [])
          ∙ ap₂ (λ b l. attach (is_word_break b rest) l (cut is_word_break b rest [])) (sym turned) (sym grown);
      word =
          ap₂ (λ a b. a || b) w.word (ap is_letter_or_number read.is)
          ∙ sym (any-append is_letter_or_number (scalars_of ps) x) ∙ ap has_letter (sym grown);
    }

walk-cut : (text : List ℕ) (start at : ℕ) (context : Context) (is_word : Bool) → (w : IsWalk text start at context is_word)
    → is_word_break (back w.part) (scalars_on text at) ≡ true → IsFirstPiece text start at is_word
walk-cut text start at context is_word w breaks = record {
  part = w.part;
  grows = w.grows;
  within = w.within;
  reads = w.reads;
  place = w.place;
  first =
      w.first
      ∙ ap (λ b. attach b (scalars_of w.part) (cut is_word_break (back w.part) (scalars_on text at) [])) breaks
      ∙ ap (λ parts. scalars_of w.part ∷ parts) (cut-fresh (back w.part) (scalars_on text at) breaks);
  word = w.word;
}

-- a boundary stands behind it
pub walk-break : (text : List ℕ) (start at c end : ℕ) (context : Context) (is_word : Bool) → IsWalk text start at context is_word → IsReadAt text at c end
    → breaks_by context c (value_at (significant (scalars_on text end)) 0) ≡ true → IsFirstPiece text start at is_word
walk-break text start at c end context is_word w read breaks =
    let rest = scalars_on text end in
    walk-cut text start at context is_word w
    (ap₂ is_word_break w.some.2 (scalars-next text at c end read)
    ∙ decided-inside w.some.0 w.some.1 c rest
    ∙ ap (λ b. breaks_by (context_of b) c (value_at (significant rest) 0)) (sym w.some.2)
    ∙ ap (λ k. breaks_by k c (value_at (significant rest) 0)) (sym w.knows)
    ∙ breaks)

-- or the text ends
pub walk-end : (text : List ℕ) (start at : ℕ) (context : Context) (is_word : Bool) → IsWalk text start at context is_word → length text ≤ at
    → IsFirstPiece text start at is_word
walk-end text start at context is_word w past =
    walk-cut text start at context is_word w (ap (is_word_break (back w.part)) (scalars-end text at past) ∙ decided-end (back w.part))
