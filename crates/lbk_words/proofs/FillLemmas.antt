-- The words from a byte on, and some of them given.
use Rattle.std.proofs.Common.{◌≡◌, ◌⊎◌, ⊎_elim, append_assoc, ℕ, ◌+◌, ◌<◌, ◌≤◌, min, Bool, true, false, cond, List, [], ◌∷◌, ◌++◌, drop, length, take, refl, sym, ap, ap₂, subst, ◌∙◌, arith}
use Rattle.std.specs.Int.{from_bool}
use Rattle.std.proofs.Math.ListN.{set, drop_of_length-le}
use Rattle.std.proofs.Math.Seq.{drop-append_seam}
use Rattle.std.proofs.lemmas.List.{append-nil, length-append, length-map, take-set, take_at, take_more_set}
use Rattle.bstr.specs.Utf8.{Decoded, or_replacement, pieces}
use Rattle.bstr.proofs.lemmas.PieceLemmas.{pieces-nil}
use Rattle.lbk_words.specs.declared.word.Word.{Word}
use Rattle.lbk_words.specs.Letters.{has_letter}
use Rattle.lbk_words.specs.Places.{IsFirstPiece}
use Rattle.lbk_words.specs.Words.{AreRising, IsBoundary, bytes_of, parts_of, scalars_of, scalars_on, words_among, words_on}
use Rattle.lbk_words.proofs.WalkLemmas.{bytes-append}
use Rattle.unicode_segmentation.specs.Segments.{cut}

-- the word that a part is, if it is one
abbrev pub one_word : Bool → ℕ → ℕ → List Word
one_word is_word start end = cond is_word (record { start = start; end = end } ∷ []) []

with-word : (is_word : Bool) (start end : ℕ) (more : List Word) → cond is_word (record { start = start; end = end } ∷ more) more ≡ one_word is_word start end ++ more
with-word true start end more = refl
with-word false start end more = refl

among-part : (at : ℕ) (part reads : List Decoded) (parts : List (List ℕ))
    → words_among at (part ++ reads) (scalars_of part ∷ parts)
    ≡ one_word (has_letter (scalars_of part)) at (at + bytes_of part) ++ words_among (at + bytes_of part) reads parts
among-part at part reads parts =
    let count : length (scalars_of part) ≡ length part = length-map part (λ (p : Decoded). or_replacement p.char) in
    let front : take (length (scalars_of part)) (part ++ reads) ≡ part = take_at part reads (length (scalars_of part)) (sym count) in
    let behind : drop (length (scalars_of part)) (part ++ reads) ≡ reads = ap (λ n. drop n (part ++ reads)) count ∙ drop-append_seam part reads in
    ap₂ (λ f b. cond (has_letter (scalars_of part)) (record { start = at; end = at + bytes_of f } ∷ words_among (at + bytes_of f) b parts) (words_among (at + bytes_of f) b parts)) front behind
    ∙ with-word (has_letter (scalars_of part)) at (at + bytes_of part) (words_among (at + bytes_of part) reads parts)

-- the words go on with the first part
pub words-next : (text : List ℕ) (at end : ℕ) (is_word : Bool) → IsFirstPiece text at end is_word
    → words_on text at ≡ one_word is_word at end ++ words_on text end
words-next text at end is_word first =
    ap₂ (words_among at) first.reads first.first
    ∙ among-part at first.part (pieces (drop end text)) (parts_of (scalars_on text end))
    ∙ ap (λ n. one_word (has_letter (scalars_of first.part)) at n ++ words_among n (pieces (drop end text)) (parts_of (scalars_on text end))) (sym first.place)
    ∙ ap (λ b. one_word b at end ++ words_on text end) (sym first.word)

-- a boundary stands at the start, and behind the part that begins at one
pub boundary-here : (text : List ℕ) (at : ℕ) → IsBoundary text at at
boundary-here text at = record {
  reads = [];
  read = refl;
  place = omega arith;
  parts = [];
  cut = refl;
}

pub boundary-next : (text : List ℕ) (start at end : ℕ) (is_word : Bool) → IsBoundary text start at → IsFirstPiece text at end is_word → IsBoundary text start end
boundary-next text start at end is_word b first = record {
  reads = b.reads ++ first.part;
  read = b.read ∙ ap (λ ps. b.reads ++ ps) first.reads ∙ sym (append_assoc b.reads first.part (pieces (drop end text)));
  place = (let sum = bytes-append b.reads first.part in let before = b.place in let here = first.place in omega arith);
  parts = b.parts ++ scalars_of first.part ∷ [];
  cut = b.cut ∙ ap (λ ps. b.parts ++ ps) first.first ∙ sym (append_assoc b.parts (scalars_of first.part ∷ []) (parts_of (scalars_on text end)));
}

-- behind the text there are none
pub words-end : (text : List ℕ) (at : ℕ) → length text ≤ at → words_on text at ≡ []
unfolding cut
words-end text at past =
    let none : pieces (drop at text) ≡ [] = ap pieces (drop_of_length-le text {i = at} past) ∙ pieces-nil in
    ap (λ ps. words_among at ps (parts_of (scalars_of ps))) none

-- a part written behind the words counts where it is one
pub written-more : (block : List Word) (count start end : ℕ) (is_word : Bool) → count < length block
    → take (count + from_bool is_word) (set block count (record { start = start; end = end })) ≡ take count block ++ one_word is_word start end
written-more block count start end true within = take_more_set block count (record { start = start; end = end }) within
written-more block count start end false within =
    ap (λ n. take n (set block count (record { start = start; end = end }))) (let e : count + 0 ≡ count = omega arith in e)
    ∙ take-set block count (record { start = start; end = end }) ∙ sym (append-nil (take count block))

-- words in order, and one more behind them
rising-wider : (from to further : ℕ) (ws : List Word) → AreRising from to ws → to ≤ further → AreRising from further ws
rising-wider from to further [] rising on = omega arith
rising-wider from to further (w ∷ ws) rising on = (rising.0, rising.1, rising-wider w.end to further ws rising.2 on)

rising-more : (from at end : ℕ) (ws : List Word) → AreRising from at ws → at < end → AreRising from end (ws ++ (record { start = at; end = end }) ∷ [])
rising-more from at end [] rising grows = (rising, grows, omega arith)
rising-more from at end (w ∷ ws) rising grows = (rising.0, rising.1, rising-more w.end at end ws rising.2 grows)

pub rising-word : (from at end : ℕ) (is_word : Bool) (ws : List Word) → AreRising from at ws → at < end → AreRising from end (ws ++ one_word is_word at end)
rising-word from at end true ws rising grows = rising-more from at end ws rising grows
rising-word from at end false ws rising grows =
    subst (AreRising from end) (sym (append-nil ws)) (rising-wider from at end ws rising (omega arith))

pub from_bool-few : (b : Bool) → from_bool b ≤ 1
from_bool-few true = omega arith
from_bool-few false = omega arith

-- how many were given, which, and the others
pub record Gives {A : Type 0} (all front more : List A) (count room : ℕ) : Type 0 where
  pub counted : count ≡ min room (length all)
  pub same : front ≡ take count all
  pub left : more ≡ drop count all

pub gives : {A : Type 0} (all front more : List A) (count room : ℕ) → all ≡ front ++ more → length front ≡ count → count ≤ room
    → (count ≡ room) ⊎ (more ≡ []) → Gives all front more count room
gives all front more count room joined many within full = record {
  counted =
      let whole = ap length joined in
      let sum = length-append front more in
      ⊎_elim (λ (same : count ≡ room). omega arith) (λ (none : more ≡ []). (let no = ap length none in omega arith)) full;
  same = sym (ap (take count) joined ∙ take_at front more count many);
  left = sym (ap (drop count) joined ∙ ap (λ n. drop n (front ++ more)) (sym many) ∙ drop-append_seam front more);
}
