-- Ends of parts, one behind the other in a block.
use Rattle.std.proofs.Common.{◌≡◌, ℕ, ◌+◌, ◌<◌, ◌≤◌, Bool, true, false, not, ◌&&◌, ◌||◌, List, [], ◌∷◌, ◌++◌, if◌then◌else◌, append_assoc, drop, length, slice_index, take, refl, sym, ap, ap₂, subst, ◌∙◌, arith}
use Rattle.std.specs.Int.{from_bool}
use Rattle.std.specs.List.{list_any}
use Rattle.std.proofs.lemmas.List.{map-append}
use Rattle.bstr.specs.Utf8.{Decoded, decoded, or_replacement, pieces}
use Rattle.ucd_breaks.specs.WordBreak.{word_break}
use Rattle.lbk_words.specs.declared.ends.Reading.{Reading}
use Rattle.lbk_words.specs.declared.ends.Noted.{Noted}
use Rattle.lbk_words.specs.declared.near.NearScalars.{NearScalars}
use Rattle.lbk_words.specs.declared.word.Filled.{Filled}
use Rattle.lbk_words.specs.Contexts.{context_after, context_of}
use Rattle.lbk_words.specs.Letters.{is_letter_or_number}
use Rattle.lbk_words.specs.Ends.{AreParts, FillsParts, IsEnd, IsNoted, IsNotedStep, IsReading, PartEnd, ReadsOn, parts_by}
use Rattle.lbk_words.specs.Filling.{IsInRow}
use Rattle.lbk_words.specs.Near.{AreMet}
use Rattle.lbk_words.specs.Places.{IsFirstPiece, IsReadAt}
use Rattle.lbk_words.specs.Rows.{row_word}
use Rattle.lbk_words.specs.Words.{scalars_of}
use Rattle.lbk_words.proofs.Booleans.{or-false}
use Rattle.lbk_words.proofs.ReadLemmas.{one-read}
use Rattle.lbk_words.proofs.WalkLemmas.{any-append, bytes-append, walk-end, walk-start}
use Rattle.lbk_words.proofs.StepLemmas.{row-begins, row-ends, row-goes-on}

-- one scalar is read, and whether it is a letter
pub noted-one : (letter : ℕ → Bool) (text : List ℕ) (at c end : ℕ) → IsReadAt text at c end → IsNoted letter text at end (letter c)
noted-one letter text at c end read = record {
  read = decoded (drop at text) ∷ [];
  reads = read.reads;
  place = read.size ∙ (let e : at + (decoded (drop at text)).size ≡ at + ((decoded (drop at text)).size + 0) = omega arith in e);
  told = ap letter read.is ∙ sym (or-false (letter (or_replacement (decoded (drop at text)).char)));
}

-- one scalar more
pub noted-more : (letter : ℕ → Bool) (text : List ℕ) (from at c end : ℕ) (noted : Bool) → IsNoted letter text from at noted → IsReadAt text at c end
    → IsNoted letter text from end (noted || letter c)
noted-more letter text from at c end noted before read =
    let p = decoded (drop at text) in
    let ps = before.read in
    record {
      read = ps ++ p ∷ [];
      reads = before.reads ∙ ap (λ l. ps ++ l) read.reads ∙ sym (append_assoc ps (p ∷ []) (pieces (drop end text)));
      place = (let sum = bytes-append ps (p ∷ []) in let here = before.place in let size = read.size in omega arith);
      told =
          ap₂ (λ a b. a || b) before.told (ap letter read.is)
          ∙ sym (any-append letter (scalars_of ps) (or_replacement p.char))
          ∙ ap (list_any letter) (sym (map-append (λ (q : Decoded). or_replacement q.char) ps (p ∷ [])));
    }

-- one part more
pub parts-more : (letter : ℕ → Bool) (text : List ℕ) (from mid : ℕ) (end : PartEnd) (ends : List PartEnd) → AreParts letter text from mid ends
    → IsEnd letter text mid end → AreParts letter text from end.at (ends ++ end ∷ [])
parts-more letter text from mid end [] parts last = (subst (λ m. IsEnd letter text m end) (sym parts) last, refl)
parts-more letter text from mid end (e ∷ es) parts last = (parts.0, parts-more letter text e.at mid end es parts.1 last)

-- so one more is made
made-more : {X : Type 0} (made : ℕ → ℕ → Bool → X) (letter : ℕ → Bool) (text : List ℕ) (from mid : ℕ) (end : PartEnd) (ends : List PartEnd)
    → AreParts letter text from mid ends → parts_by made from (ends ++ end ∷ []) ≡ parts_by made from ends ++ made mid end.at end.has_letter ∷ []
made-more made letter text from mid end [] parts = ap (λ m. made m end.at end.has_letter ∷ []) parts
made-more made letter text from mid end (e ∷ es) parts =
    ap (λ l. made from e.at e.has_letter ∷ l) (made-more made letter text e.at mid end es parts.1)

module _ {X : Type 0} (made : ℕ → ℕ → Bool → X) (letter : ℕ → Bool) (text : List ℕ) (from : Filled) (old : List X) where
  -- one part more is put
  fills-more : (count start : ℕ) (end : PartEnd) (out new : List X) → FillsParts made letter text from old (record { count = count; at = start }) out
      → IsEnd letter text start end → take (count + 1) new ≡ take count out ++ made start end.at end.has_letter ∷ []
      → FillsParts made letter text from old (record { count = count + 1; at = end.at }) new
  fills-more count start end out new fills is put =
      let one = made start end.at end.has_letter ∷ [] in
      record {
        ends = fills.ends ++ end ∷ [];
        parts = parts-more letter text from.at start end fills.ends fills.parts is;
        put =
            put
            ∙ ap (λ l. l ++ one) fills.put
            ∙ append_assoc (take from.count old) (parts_by made from.at fills.ends) one
            ∙ ap (λ l. take from.count old ++ l) (sym (made-more made letter text from.at start end fills.ends fills.parts));
      }

  -- a part ends where the text does
  pub reading-ended : (here : Reading) (out new : List X) → IsReading made letter text from old here out
      → length text ≤ here.at → take (here.count + 1) new ≡ take here.count out ++ made here.start here.at here.has_letter ∷ []
      → FillsParts made letter text from old (record { count = here.count + 1; at = here.at }) new
  reading-ended here out new r past put =
      fills-more here.count here.start (record { at = here.at; has_letter = here.has_letter }) out new r.fills
      (record {
        is_word = row_word here.row;
        first = walk-end text here.start here.at r.part.context (row_word here.row) r.part.walk past;
        noted = r.noted;
      }) put

  -- one scalar more is read
  reading-by : (here : Reading) (out new : List X) (noted : Noted) (cuts : Bool) → IsReading made letter text from old here out
      → take here.count new ≡ take here.count out → take (here.count + 1) new ≡ take here.count out ++ made here.start here.at here.has_letter ∷ []
      → IsNotedStep letter text here.row here.at noted → noted.next.step.cuts ≡ cuts
      → IsReading made letter text from old
      (record { count = here.count + from_bool cuts; start = if cuts then here.at else here.start; at = noted.next.end; row = noted.next.step.next; has_letter = noted.is_letter || (here.has_letter && not cuts) }) new
  reading-by here out new noted true r kept put is cuts =
      let next = noted.next in
      record {
        fills = fills-more here.count here.start (record { at = here.at; has_letter = here.has_letter }) out new r.fills
            (record {
              is_word = row_word here.row;
              first = row-ends text here.start here.at here.row next.code next.end next.step r.part is.next.read is.next.step cuts;
              noted = r.noted;
            }) put;
        part = row-begins text here.at here.row next.code next.end next.step is.next.read is.next.step cuts;
        noted = subst (IsNoted letter text here.at next.end) (sym (alone noted.is_letter here.has_letter ∙ is.told)) (noted-one letter text here.at next.code next.end is.next.read);
      }
    where
      alone : (a b : Bool) → (a || (b && false)) ≡ a
      alone true b = refl
      alone false true = refl
      alone false false = refl
  reading-by here out new noted false r kept put is cuts =
      let next = noted.next in
      record {
        fills = record {
          ends = r.fills.ends;
          parts = r.fills.parts;
          put = ap (λ n. take n new) (let e : here.count + 0 ≡ here.count = omega arith in e) ∙ kept ∙ r.fills.put;
        };
        part = row-goes-on text here.start here.at here.row next.code next.end next.step r.part is.next.read is.next.step cuts;
        noted = subst (IsNoted letter text here.start next.end) (turned here.has_letter (letter next.code) ∙ ap (λ b. b || (here.has_letter && true)) (sym is.told))
            (noted-more letter text here.start here.at next.code next.end here.has_letter r.noted is.next.read);
      }
    where
      turned : (a b : Bool) → (a || b) ≡ (b || (a && true))
      turned true true = refl
      turned true false = refl
      turned false true = refl
      turned false false = refl

  pub reading-taken : (here : Reading) (out new : List X) (noted : Noted) (n : ℕ) → IsReading made letter text from old here out
      → take here.count new ≡ take here.count out → take (here.count + 1) new ≡ take here.count out ++ made here.start here.at here.has_letter ∷ []
      → IsNotedStep letter text here.row here.at noted → n ≡ from_bool noted.next.step.cuts
      → IsReading made letter text from old
      (record { count = here.count + n; start = if noted.next.step.cuts then here.at else here.start; at = noted.next.end; row = noted.next.step.next; has_letter = noted.is_letter || (here.has_letter && not noted.next.step.cuts) }) new
  reading-taken here out new noted n r kept put is few =
      subst (λ m. IsReading made letter text from old (record { count = here.count + m; start = if noted.next.step.cuts then here.at else here.start; at = noted.next.end; row = noted.next.step.next; has_letter = noted.is_letter || (here.has_letter && not noted.next.step.cuts) }) new) (sym few)
      (reading-by here out new noted noted.next.step.cuts r kept put is refl)

  -- more scalars of the part so far are read
  pub reading-joined : (here there : Reading) (out : List X) → IsReading made letter text from old here out
      → (there.count ≡ here.count) × (there.start ≡ here.start)
      → IsInRow text here.start there.at there.row × IsNoted letter text here.start there.at there.has_letter
      → IsReading made letter text from old there out
  reading-joined here there out r same part = record {
    fills =
        subst (λ n. FillsParts made letter text from old (record { count = n; at = there.start }) out) (sym same.0)
        (subst (λ s. FillsParts made letter text from old (record { count = here.count; at = s }) out) (sym same.1) r.fills);
    part = subst (λ s. IsInRow text s there.at there.row) (sym same.1) part.0;
    noted = subst (λ s. IsNoted letter text s there.at there.has_letter) (sym same.1) part.1;
  }

-- scalars are read, and then more
pub reads-more : {X : Type 0} (made : ℕ → ℕ → Bool → X) (near : NearScalars) (text : List ℕ) (from mid to : Reading) (old some new : List X)
    → length some ≡ length old → ReadsOn made near text from old mid some → ReadsOn made near text mid some to new → ReadsOn made near text from old to new
reads-more made near text from mid to old some new len before after =
    record {
      reads = λ letter met start first r. after.reads letter met start first (before.reads letter met start first r);
      onward = (omega (arith, before.onward.0, after.onward.0), omega (arith, before.onward.1, after.onward.1));
      starts = omega (arith, before.starts, after.starts);
      within = (after.within.0, after.within.1, omega (arith, after.within.2, len));
      row = after.row;
    }

-- the last byte of a text is a part, if it is a scalar by itself
pub lone-part : (text : List ℕ) (at : ℕ) → length text ≡ at + 1 → slice_index text at < 128 → (is_word : Bool) × IsFirstPiece text at (at + 1) is_word
lone-part text at size low =
    let c = slice_index text at in
    let read = one-read text at (omega arith) low in (
      is_letter_or_number c,
      walk-end text at (at + 1) (context_after (context_of []) (word_break c)) (is_letter_or_number c) (walk-start text at c (at + 1) read) (omega arith),
    )
