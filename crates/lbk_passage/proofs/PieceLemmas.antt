-- The pieces from a byte on.
use Rattle.std.proofs.Common.{◌≡◌, ℕ, zero, suc, ◌+◌, ◌*◌, ◌-◌, ◌^◌, Result, Ok, Err, max, vec_capacity, ◌<◌, ◌≤◌, ⊎_elim, bit_and, count_ones, w64, Bool, true, false, if◌then◌else◌, List, [], ◌∷◌, ◌++◌, append-nil, append_assoc, drop, length, map, take, refl, sym, ap, subst, ◌∙◌, arith}
use Rattle.std.specs.Str.{IsCharBoundary, IsUtf8, chars, encode_utf8_all}
use Rattle.std.proofs.Math.Utf8.{scalars}
use Rattle.std.specs.Int.{trailing_zeros}
use Rattle.std.proofs.lemmas.Bool.{cases_lt}
use Rattle.std.proofs.lemmas.Nat.{and_le_r, ones_le_self}
use Rattle.std.proofs.Math.ListN.{drop_of_length-le}
use Rattle.std.proofs.lemmas.List.{length-drop, length-take-le}
use Rattle.std.proofs.lemmas.Str.{IsCharBoundary-from_drop, chars-encodes, chars-nil}
use Rattle.unicode_segmentation.specs.Segments.{cut, prepend, segments}
use Rattle.unicode_segmentation.specs.Word.{is_word_break, word_bounds}
use Rattle.lbk_rules.specs.declared.Cell.{Cell}
use Rattle.lbk_words.specs.Places.{IsFirstPiece}
use Rattle.lbk_words.proofs.WellFormedLemmas.{first-bound, read-chars}
use Rattle.lbk_masks.specs.Bits.{AreCleared, IsLowest}
use Rattle.lbk_masks.proofs.KeptLemmas.{are-cleared, lowest}
use Rattle.lbk_passage.proofs.CountLemmas.{one-fewer}
use Rattle.lbk_passage.proofs.RoomLemmas.{Grows-made, Grows-more, Grows-none}
use Rattle.lbk_words.specs.Ends.{AreEnds, AreParts, AreTold, FillsParts, IsEnd, PartEnd, parts_by}
use Rattle.lbk_words.specs.declared.word.Filled.{Filled}
use Rattle.std.specs.List.{list_any}
use Rattle.lbk_words.proofs.EndLemmas.{IsEnd as IsTold, next-end}
use Rattle.lbk_passage.specs.declared.front.Front.{Front}
use Rattle.lbk_passage.specs.declared.passage.Piece.{Piece}
use Rattle.lbk_passage.specs.Pieces.{CutsOn, IsCutOn, is_word, letter_by, piece_of, pieces_from, pieces_on}
use Rattle.lbk_passage.specs.Front.{items_of}

-- the first of them, and those behind it
pub pieces-step : (cell : ℕ → Cell) (text : List ℕ) (start end : ℕ) (word : Bool) → IsUtf8 (drop start text) → IsFirstPiece text start end word
    → pieces_from cell start (word_bounds (drop start text))
    ≡ record { start = start; end = end; word = is_word cell (take (end - start) (drop start text)) } ∷ pieces_from cell end (word_bounds (drop end text))
pieces-step cell text start end word utf8 first =
    let piece = take (end - start) (drop start text) in
    let size : start + length piece ≡ end =
    (let grows = first.grows in let within = first.within in omega (arith, length-take-le (end - start) (drop start text) (omega (arith, length-drop start text)), length-drop start text)) in
    ap (pieces_from cell start) (first-bound text start end word utf8 first).bounds
    ∙ ap (λ n. record { start = start; end = n; word = is_word cell piece } ∷ pieces_from cell n (word_bounds (drop end text))) size

-- none is left at the end
pub pieces-end : (cell : ℕ → Cell) (text : List ℕ) (start : ℕ) → length text ≤ start → pieces_from cell start (word_bounds (drop start text)) ≡ []
unfolding segments cut
pieces-end cell text start past =
    ap (λ l. pieces_from cell start (word_bounds l)) (drop_of_length-le text past) ∙ ap (λ l. pieces_from cell start (map encode_utf8_all (cut is_word_break [] l []))) chars-nil

module _ (cell : ℕ → Cell) (text : List ℕ) where
  -- the next piece is put behind those of a list
  pub cut-one : (start end : ℕ) (word known : Bool) (old new : List Piece) → IsUtf8 (drop start text) → IsFirstPiece text start end word
      → known ≡ is_word cell (take (end - start) (drop start text))
      → new ≡ old ++ record { start = start; end = end; word = known } ∷ []
      → IsCutOn cell text start old new end
  cut-one start end word known old new utf8 first told items =
      let others = pieces_on cell text end in
      let step = pieces-step cell text start end word utf8 first in
      let piece : Piece = record { start = start; end = end; word = known } in
      let ahead : piece ∷ others ≡ pieces_on cell text start = ap (λ w. record { start = start; end = end; word = w } ∷ others) told ∙ sym step in
      record {
        cut = ap (λ all. all ++ others) items ∙ append_assoc old (piece ∷ []) others ∙ ap (λ rest. old ++ rest) ahead;
        utf8 = (first-bound text start end word utf8 first).utf8;
        within = first.within;
      }

  -- more of them are put behind some
  pub cut-on : (from mid to : ℕ) (old some new : List Piece) → IsCutOn cell text from old some mid → IsCutOn cell text mid some new to
      → IsCutOn cell text from old new to
  cut-on from mid to old some new before after = record { cut = after.cut ∙ before.cut; utf8 = after.utf8; within = after.within }

-- a part that ends there is a word if it holds a letter
end-told : (cell : ℕ → Cell) (text : List ℕ) (from : ℕ) (end : PartEnd) → IsUtf8 (drop from text) → IsEnd (letter_by cell) text from end
    → end.has_letter ≡ is_word cell (take (end.at - from) (drop from text))
end-told cell text from end utf8 is =
    is.noted.told ∙ ap (list_any (letter_by cell)) (sym (read-chars text from end.at is.noted.read utf8 is.noted.reads is.noted.place))

-- the pieces that have the ends of parts are those of the text
pub parts-cut : (cell : ℕ → Cell) (text : List ℕ) (from to : ℕ) (ends : List PartEnd) (old new : List Piece) → IsUtf8 (drop from text) → from ≤ length text
    → AreParts (letter_by cell) text from to ends → new ≡ old ++ parts_by piece_of from ends → IsCutOn cell text from old new to
parts-cut cell text from to [] old new utf8 within parts is =
    subst (IsCutOn cell text from old new) parts
    (record { cut = ap (λ l. l ++ pieces_on cell text from) (is ∙ append-nil old); utf8 = utf8; within = within })
parts-cut cell text from to (end ∷ ends) old new utf8 within parts is =
    let first = parts.0.first in
    let piece = piece_of from end.at end.has_letter in
    let some = old ++ piece ∷ [] in
    cut-on cell text from end.at to old some new
    (cut-one cell text from end.at parts.0.is_word end.has_letter old some utf8 first (end-told cell text from end utf8 parts.0) refl)
    (parts-cut cell text end.at to ends some new (first-bound text from end.at parts.0.is_word utf8 first).utf8 first.within parts.1
    (is ∙ sym (append_assoc old (piece ∷ []) (parts_by piece_of end.at ends))))

-- a text that is not empty has a piece
cut-some : (before : List ℕ) (c : ℕ) (cs : List ℕ) → 1 ≤ length (cut is_word_break before (c ∷ cs) [])
unfolding cut
cut-some before c cs = by_case (is_word_break (c ∷ before) (cs ++ [])) (cut is_word_break (c ∷ before) cs [])
  where
    by_case : (b : Bool) (rest : List (List ℕ)) → 1 ≤ length (if b then (c ∷ []) ∷ rest else prepend (c ∷ []) rest)
    by_case true rest = omega arith
    by_case false [] = omega arith
    by_case false (p ∷ ps) = omega arith

some-from : (cell : ℕ → Cell) (start : ℕ) (parts : List (List ℕ)) → 1 ≤ length parts → 1 ≤ length (pieces_from cell start (map encode_utf8_all parts))
some-from cell start [] some = absurd (omega (arith, some))
some-from cell start (p ∷ ps) some = omega arith

some-of : (cell : ℕ → Cell) (start : ℕ) (text cs : List ℕ) → scalars cs ≡ true → encode_utf8_all cs ≡ text → 0 < length text
    → 1 ≤ length (pieces_from cell start (word_bounds text))
unfolding segments
some-of cell start text [] are is some = absurd (omega (arith, some, ap length is))
some-of cell start text (c ∷ cs) are is some =
    subst (λ l. 1 ≤ length (pieces_from cell start (map encode_utf8_all (cut is_word_break [] l [])))) (sym (ap chars (sym is) ∙ chars-encodes (c ∷ cs) are))
    (some-from cell start (cut is_word_break [] (c ∷ cs) []) (cut-some [] c cs))

pub some-piece : (cell : ℕ → Cell) (text : List ℕ) (start : ℕ) → start < length text → IsUtf8 (drop start text) → 1 ≤ length (pieces_on cell text start)
some-piece cell text start within utf8 = some-of cell start (drop start text) utf8.0 utf8.1.0 utf8.1.1 (omega (arith, length-drop start text))

-- where a piece of well-formed text ends, a scalar begins
pub piece-ends : (text : List ℕ) (start end : ℕ) (word : Bool) → IsUtf8 (drop start text) → IsFirstPiece text start end word → IsCharBoundary text end
piece-ends text start end word utf8 first = IsCharBoundary-from_drop text end first.within (first-bound text start end word utf8 first).utf8

-- the ends of the pieces from the byte `start` on that bits tell, the lowest for the byte `base`
pub record AreNext (text : List ℕ) (base start left : ℕ) : Type 0 where
  pub at : ℕ
  pub stop : ℕ
  pub place : start ≡ base + at
  pub within : base + stop ≤ length text
  pub ends : AreEnds (drop base text) at stop left

pub all-next : (text : List ℕ) (base ends : ℕ) → AreTold text base ends → AreNext text base base ends
all-next text base ends told = record { at = 0; stop = told.stop; place = omega arith; within = told.within; ends = told.ends }

-- the next of them, and those behind it
pub record IsNext (text : List ℕ) (base start left end next : ℕ) : Type 0 where
  pub piece : (is_word : Bool) × IsFirstPiece text start (base + end) is_word
  pub rest : AreNext text base (base + end) next
  pub fewer : count_ones left ≡ count_ones next + 1

pub next-told : (text : List ℕ) (base start left end next : ℕ) → AreNext text base start left → left < 2 ^ 64 → 0 < left → end < 64 → IsLowest left end
    → AreCleared left end next → IsNext text base start left end next
next-told text base start left end next are fits some few lowest cleared =
    let found : IsTold text base are.at are.stop end next = next-end text base are.at are.stop left end next are.ends are.within some few lowest cleared in
    record {
      piece = (found.part.0, subst (λ from. IsFirstPiece text from (base + end) found.part.0) (sym are.place) found.part.1);
      rest = record { at = end; stop = are.stop; place = refl; within = are.within; ends = found.rest };
      fewer = (let upto = cleared.fewer in one-fewer left end next fits (omega (arith, upto, fits)) some few lowest cleared);
    }

-- there are as many pieces as bits tell ends, or more
pub told-few : (k : ℕ) (cell : ℕ → Cell) (text : List ℕ) (base start left : ℕ) → left < 2 ^ 64 → count_ones left ≤ k → IsUtf8 (drop start text)
    → AreNext text base start left → count_ones left ≤ length (pieces_on cell text start)
told-few zero cell text base start left fits most utf8 are = omega (arith, most)
told-few (suc k) cell text base start left fits most utf8 are = ⊎_elim
    (λ (some : 0 < left).
    let end : ℕ = bit_and (trailing_zeros w64 left) 63 in
    let next : ℕ = bit_and left (left - 1) in
    let few : end < 64 = omega (arith, and_le_r (trailing_zeros w64 left) 63) in
    let low = lowest left fits in
    let cleared = are-cleared left end some few low in
    let found = next-told text base start left end next are fits some few low cleared in
    let one = found.fewer in
    let piece = found.piece.1 in
    let behind = told-few k cell text base (base + end) next (omega (arith, cleared.fewer, fits)) (omega (arith, one, most)) (first-bound text start (base + end) found.piece.0 utf8 piece).utf8 found.rest in
    omega (arith, one, behind, ap length (pieces-step cell text start (base + end) found.piece.0 utf8 piece)))
    (λ (none : left ≤ 0). omega (arith, none, ones_le_self left))
    (cases_lt 0 left)

module _ {E : Type 0} (cell : ℕ → Cell) (text : List ℕ) (start : ℕ) (old made : Front Piece) where
  -- the pieces that parts are were put into room that was made for some of them
  pub cuts-parts : (from to : Filled) (before : List Piece) (new : Front Piece) (r : Result ℕ E) → r ≡ Ok to.at → IsUtf8 (drop start text) → start ≤ length text
      → from ≡ record { count = old.count; at = start } → take old.count before ≡ items_of old → FillsParts piece_of (letter_by cell) text from before to new.items.items
      → new.count ≡ to.count
      → vec_capacity old.items ≤ vec_capacity made.items → vec_capacity made.items ≤ max (vec_capacity old.items) (2 * (old.count + 1))
      → vec_capacity new.items ≡ vec_capacity made.items → old.count < to.count
      → CutsOn cell text start old new r
  cuts-parts from to before new r is utf8 within same items fills count kept most room more =
      subst (CutsOn cell text start old new) (sym is) (record {
        cut = (
            let put : items_of new ≡ items_of old ++ parts_by piece_of start fills.ends =
            ap (λ n. take n new.items.items) count ∙ fills.put ∙ ap (λ f. take f.count before ++ parts_by piece_of f.at fills.ends) same
            ∙ ap (λ l. l ++ parts_by piece_of start fills.ends) items in
            parts-cut cell text start to.at fills.ends (items_of old) (items_of new) utf8 within
            (subst (λ (f : Filled). AreParts (letter_by cell) text f.at to.at fills.ends) same fills.parts) put);
        grows = Grows-more old made new 1 kept most room (omega (arith, count, more));
        full = tt;
      })

  -- they were put into room that was made for them
  pub cuts-made : (next more : ℕ) (new : Front Piece) (r : Result ℕ E) → r ≡ Ok next → IsCutOn cell text start (items_of old) (items_of new) next
      → vec_capacity old.items ≤ vec_capacity made.items → vec_capacity made.items ≤ max (vec_capacity old.items) (2 * (old.count + more))
      → vec_capacity new.items ≡ vec_capacity made.items → new.count ≡ old.count + more
      → CutsOn cell text start old new r
  cuts-made next more new r is cut kept most room count =
      subst (CutsOn cell text start old new) (sym is) (record { cut = cut; grows = Grows-made old made new more kept most room count; full = tt })

  -- there was no room for as many as there are, or fewer
  pub cuts-refused : (more : ℕ) (e : E) (r : Result ℕ E) → r ≡ Err e → vec_capacity made.items ≡ vec_capacity old.items → made.count ≡ old.count
      → vec_capacity old.items < old.count + more → more ≤ length (pieces_on cell text start) → CutsOn cell text start old made r
  cuts-refused more e r is room count short few =
      subst (CutsOn cell text start old made) (sym is) (record { cut = tt; grows = Grows-none old made room count; full = omega (arith, short, few) })
