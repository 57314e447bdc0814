-- Any piece of a text: a scalar, or ill-formed bytes that are read as U+FFFD.
use Rattle.std.proofs.Common.{◌≡◌, ℕ, ◌+◌, ◌-◌, ◌<◌, ◌≤◌, List, [], ◌∷◌, ◌++◌, length, get_or, map, drop, take, reverse, sym, ap, subst, ◌∙◌, length-append, length-drop, arith}
use Rattle.std.specs.Char.{IsScalar}
use Rattle.std.proofs.lemmas.List.{drop-append-le}
use Rattle.bstr.specs.Utf8.{Decoded, decoded, lossy_chars, or_replacement}
use Rattle.bstr.proofs.lemmas.PieceLemmas.{piece-bounds}
use Rattle.lbk_rules.specs.declared.Cell.{Cell}
use Rattle.lbk_rules.specs.declared.steps.Step.{Step}
use Rattle.lbk_values.specs.declared.profile.Profile.{Profile}
use Rattle.lbk_rules.specs.FlatTable.{AreFlatKinds, KnowsTaken}
use Rattle.lbk_rules.specs.Kinds.{kind_cell, real_kind}
use Rattle.lbk_rules.specs.Normal.{normal}
use Rattle.lbk_rules.specs.RowMachineFits.{normals}
use Rattle.lbk_rules.specs.Chain.{from_cells}
use Rattle.lbk_rules.specs.Rows.{left_at, step_by, steps_in, verdict_shown}
use Rattle.lbk_rules.specs.Verdict.{verdict_between_in}
use Rattle.lbk_bytes.specs.Decided.{IsDecided}
use Rattle.lbk_bytes.proofs.CutLemmas.{four-more}
use Rattle.lbk_bytes.proofs.PieceLemmas.{Reads, piece-within, read-scalar, rest-of, scalar-below}
use Rattle.lbk_bytes.proofs.StepLemmas.{IsSwiftStep, Settles, decides-text, knows-more, settled-step, swift-step}

-- what begins here is read as this scalar, and takes so many bytes
pub record ReadsAs (text : List ℕ) (at code size : ℕ) : Type 0 where
  pub is_char : code ≡ or_replacement (decoded (drop at text)).char
  pub is_size : size ≡ (decoded (drop at text)).size
  pub scalar : IsScalar code
  pub below : code < 0x110000
  pub some : 0 < size
  pub few : size ≤ 4
  pub within : at + size ≤ length text

pub reads-as : (text : List ℕ) (at code size : ℕ) → at < length text
    → code ≡ or_replacement (decoded (take (length text - at) (drop at text))).char
    → size ≡ (decoded (take (length text - at) (drop at text))).size → ReadsAs text at code size
reads-as text at code size inside is_char is_size =
    let whole = rest-of text at in
    let char : code ≡ or_replacement (decoded (drop at text)).char = is_char ∙ ap (λ bs. or_replacement (decoded bs).char) whole in
    let same : size ≡ (decoded (drop at text)).size = is_size ∙ ap (λ bs. (decoded bs).size) whole in
    let bounds = piece-within text at inside in
    let scalar : IsScalar code = subst IsScalar (sym char) (read-scalar (drop at text)) in
    record {
      is_char = char;
      is_size = same;
      scalar = scalar;
      below = scalar-below code scalar;
      some = omega (arith, bounds.0, same);
      few = omega (arith, (piece-bounds (drop at text) (omega (arith, length-drop at text))).1, same);
      within = omega (arith, bounds.1, same);
    }

-- a scalar is
pub as-read : (text : List ℕ) (at code size : ℕ) → Reads text at code size → ReadsAs text at code size
as-read text at code size r = record {
  is_char = sym (ap (λ (p : Decoded). or_replacement p.char) r.read);
  is_size = sym (ap (λ (p : Decoded). p.size) r.read);
  scalar = r.scalar;
  below = r.below;
  some = r.some;
  few = r.few;
  within = r.within;
}

-- whatever follows the text, where four bytes are there
pub reads-as-more : (text more : List ℕ) (at code size : ℕ) → at + 3 < length text → ReadsAs text at code size → ReadsAs (text ++ more) at code size
reads-as-more text more at code size four r =
    let left = length-drop at text in
    let long = length-append text more in
    let same : decoded (drop at (text ++ more)) ≡ decoded (drop at text) =
    ap decoded (drop-append-le at text more (omega arith)) ∙ four-more (drop at text) more (omega arith) in
    record {
      is_char = r.is_char ∙ ap (λ p. or_replacement p.char) (sym same);
      is_size = r.is_size ∙ ap (λ p. p.size) (sym same);
      scalar = r.scalar;
      below = r.below;
      some = r.some;
      few = r.few;
      within = (let within = r.within in omega arith);
    }

-- a step by such a piece decides the position before it
pub read-decided : (profile : Profile) (cell : ℕ → Cell) (text : List ℕ) (steps : List (List Step)) (kinds : List ℕ) (row at code size : ℕ) (step : Step)
    → steps ≡ steps_in profile → AreFlatKinds kinds cell → ReadsAs text at code size
    → step ≡ step_by steps row (get_or kinds code 0) → Settles steps step
    → (taken : List ℕ) → KnowsTaken cell row taken
    → IsDecided profile cell text at taken (record { shown = step.shown; row = step.next; at = at + size })
read-decided profile cell text steps kinds row at code size step are are_kinds reads same settles taken known =
    let kind = real_kind (get_or kinds code 0) in
    let is_kind = are_kinds code reads.scalar in
    let here : IsSwiftStep profile (left_at row) (kind_cell kind) step =
    subst (λ s. IsSwiftStep profile (left_at row) (kind_cell kind) s) (sym same) (swift-step profile steps row (get_or kinds code 0) are known.0) in
    let right = map cell (lossy_chars (drop (at + size) text)) in
    record {
      moved = ap (λ n. at + n) reads.is_size;
      knows = subst (λ x. KnowsTaken cell step.next (taken ++ x ∷ [])) reads.is_char
          (knows-more cell row step.next code kind is_kind here.begins here.leads taken known);
      decides = decides-text profile cell taken code kind step.shown right is_kind
          (subst (λ (s : Step). verdict_shown s.shown ≡ from_cells profile (reverse (normals cell taken)) (kind_cell kind ∷ map normal right)) (sym same)
          (settled-step profile steps row (get_or kinds code 0) are known.0 (subst (Settles steps) same settles) (reverse (normals cell taken)) (map normal right) (sym known.1)))
          ∙ ap (λ x. verdict_between_in profile (map cell taken) (cell x ∷ right)) reads.is_char;
    }
