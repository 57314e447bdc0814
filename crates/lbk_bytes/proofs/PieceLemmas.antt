-- The pieces of a text from a byte on.
use Rattle.std.proofs.Common.{◌≡◌, ℕ, ◌+◌, ◌-◌, ◌<◌, ◌≤◌, Option, Some, None, List, ◌∷◌, length, drop, take, refl, sym, ap, ◌∙◌, ⊎_elim, arith}
use Rattle.std.specs.Char.{IsScalar}
use Rattle.std.proofs.lemmas.List.{length-drop, take_all}
use Rattle.std.proofs.Math.Seq.{drop-drop}
use Rattle.bstr.specs.Utf8.{Decoded, decoded, good, or_replacement, pieces}
use Rattle.bstr.proofs.lemmas.PieceLemmas.{piece-bounds, pieces-step}
use Rattle.bstr.proofs.lemmas.SoundLemmas.{SpellsChar-decoded}
use lib.Utf8.{scalar_cases}

-- a text goes on with a piece, and those behind it
pub pieces-on : (text : List ℕ) (at : ℕ) → at < length text
    → pieces (drop at text) ≡ decoded (drop at text) ∷ pieces (drop (at + (decoded (drop at text)).size) text)
pieces-on text at within =
    let p = decoded (drop at text) in
    let some : 0 < length (drop at text) = omega (arith, length-drop at text) in
    pieces-step (drop at text) some ∙ ap (λ l. p ∷ pieces l) (drop-drop p.size at text)

-- a piece takes some bytes, and no more than there are
pub piece-within : (text : List ℕ) (at : ℕ) → at < length text
    → (0 < (decoded (drop at text)).size) × (at + (decoded (drop at text)).size ≤ length text)
piece-within text at within =
    let some : 0 < length (drop at text) = omega (arith, length-drop at text) in
    let bounds = piece-bounds (drop at text) some in
    let left = length-drop at text in
    (omega arith, omega arith)

-- what is left of a text
pub rest-of : {A : Type 0} (text : List A) (at : ℕ) → take (length text - at) (drop at text) ≡ drop at text
rest-of text at = take_all (length text - at) (drop at text) (omega (arith, length-drop at text))

-- a scalar is a code
pub scalar-below : (code : ℕ) → IsScalar code → code < 0x110000
scalar-below code scalar = ⊎_elim (λ low. omega arith) (λ high. omega arith) (scalar_cases code scalar)

-- a scalar stands there
pub record Reads (text : List ℕ) (at code size : ℕ) : Type 0 where
  pub read : decoded (drop at text) ≡ good code size
  pub scalar : IsScalar code
  pub below : code < 0x110000
  pub some : 0 < size
  pub few : size ≤ 4
  pub within : at + size ≤ length text

pub reads : (text : List ℕ) (at code size : ℕ) → at < length text → decoded (take (length text - at) (drop at text)) ≡ good code size → Reads text at code size
reads text at code size inside found =
    let read : decoded (drop at text) ≡ good code size = ap decoded (sym (rest-of text at)) ∙ found in
    let size_same : (decoded (drop at text)).size ≡ size = ap (λ (p : Decoded). p.size) read in
    let bounds = piece-within text at inside in
    let some = bounds.0 in
    let fits = bounds.1 in
    let few = (piece-bounds (drop at text) (omega (arith, length-drop at text))).1 in
    let scalar = (SpellsChar-decoded (drop at text) code (ap (λ (p : Decoded). p.char) read)).scalar in
    record {
      read = read;
      scalar = scalar;
      below = scalar-below code scalar;
      some = omega arith;
      few = omega arith;
      within = omega arith;
    }

-- what is left behind a piece
pub rest-behind : (text : List ℕ) (at size : ℕ) → at < length text → size ≡ (decoded (drop at text)).size
    → take (length (take (length text - at) (drop at text)) - size) (drop size (take (length text - at) (drop at text))) ≡ drop (at + size) text
rest-behind text at size inside is_size =
    ap (λ bs. take (length bs - size) (drop size bs)) (rest-of text at) ∙ rest-of (drop at text) size ∙ drop-drop size at text

-- what any bytes are read as at their front is a scalar
pub read-scalar : (bs : List ℕ) → IsScalar (or_replacement (decoded bs).char)
read-scalar bs =
    (elim (decoded bs).char as (λ (o : Option ℕ). (decoded bs).char ≡ o → IsScalar (or_replacement o)) [
      | None ↦ λ _. refl
      | Some y ↦ λ found. (SpellsChar-decoded bs y found).scalar
    ]) refl
