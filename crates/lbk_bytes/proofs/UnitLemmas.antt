-- What begins at a unit of a text, and what is decided before it.
use Rattle.std.proofs.Common.{◌≡◌, ℕ, ◌+◌, ◌-◌, ◌<◌, ◌≤◌, List, [], ◌∷◌, ◌++◌, length, drop, take, map, get_or, refl, sym, ap, subst, ◌∙◌, arith}
use Rattle.std.specs.Char.{IsScalar}
use Rattle.std.proofs.lemmas.List.{drop-drop, length-drop}
use Rattle.bstr.specs.Utf8.{Decoded, bad, decoded, lossy_chars, or_replacement, pieces}
use Rattle.bstr.proofs.lemmas.PieceLemmas.{piece-bounds, pieces-step}
use Rattle.lbk_rules.specs.declared.Cell.{Cell}
use Rattle.lbk_rules.specs.declared.steps.Step.{Step}
use Rattle.lbk_values.specs.declared.profile.Profile.{Profile}
use Rattle.lbk_values.specs.declared.profile.Profile.TheVariants.{First}
use Rattle.lbk_rules.specs.FlatTable.{AreFlatKinds, KnowsTaken}
use Rattle.lbk_rules.specs.Kinds.{kind_cell, real_kind}
use Rattle.lbk_rules.specs.Normal.{normal}
use Rattle.lbk_rules.specs.Rows.{left_at, step_by, steps_in, verdict_shown}
use Rattle.lbk_rules.specs.Verdict.{verdict_between_in}
use Rattle.lbk_bytes.specs.declared.deciding.Decided.{Decided}
use Rattle.lbk_bytes.specs.declared.unit.UnitScalar.{UnitScalar}
use Rattle.lbk_bytes.specs.Decided.{IsDecided, IsUnitDecided, on_from}
use Rattle.lbk_bytes.specs.Front.{IsFront}
use Rattle.lbk_bytes.specs.Reached.{scalars_of}
use Rattle.lbk_bytes.proofs.PieceLemmas.{pieces-on, rest-of}
use Rattle.lbk_bytes.proofs.StepLemmas.{IsSwiftStep, knows-more, swift-step}

-- what begins at a unit of a text
pub record IsFrontAt {A : Type 0} (pieces_of : List A → List Decoded) (text : List A) (at : ℕ) (found : UnitScalar) : Type 0 where
  pub piece : Decoded
  pub begins : on_from pieces_of text at ≡ piece ∷ on_from pieces_of text (at + found.size)
  pub reads : or_replacement piece.char ≡ found.scalar
  pub sized : piece.size ≡ found.size
  pub some : 0 < found.size
  pub few : found.size ≤ 4
  pub within : at + found.size ≤ length text

pub front-at : {A : Type 0} (pieces_of : List A → List Decoded) (text : List A) (at : ℕ) (found : UnitScalar) → at < length text
    → IsFront pieces_of (take (length text - at) (drop at text)) found → IsFrontAt pieces_of text at found
front-at pieces_of text at found inside front =
    let here : IsFront pieces_of (drop at text) found = subst (λ us. IsFront pieces_of us found) (rest-of text at) front in
    let left = length-drop at text in
    record {
      piece = here.piece;
      begins = here.begins ∙ ap (λ us. here.piece ∷ pieces_of us) (drop-drop found.size at text);
      reads = here.reads;
      sized = here.sized;
      some = here.some;
      few = here.few;
      within = omega (arith, here.within, left);
    }

-- the normal cells of the rest of a text
abbrev pub cells_on : {A : Type 0} → (List A → List Decoded) → (ℕ → Cell) → ℕ → List A → List Cell
cells_on pieces_of cell at text = map normal (map cell (scalars_of (pieces_of (drop at text))))

pub cells-next : {A : Type 0} (pieces_of : List A → List Decoded) (cell : ℕ → Cell) (text : List A) (at : ℕ) (found : UnitScalar) → IsFrontAt pieces_of text at found
    → cells_on pieces_of cell at text ≡ normal (cell found.scalar) ∷ cells_on pieces_of cell (at + found.size) text
cells-next pieces_of cell text at found front =
    ap (λ ps. map normal (map cell (scalars_of ps))) front.begins
    ∙ ap (λ x. normal (cell x) ∷ cells_on pieces_of cell (at + found.size) text) front.reads

pub unit-decided : {A : Type 0} (pieces_of : List A → List Decoded) (text rest : List A) (at : ℕ) (found : UnitScalar)
    (profile : Profile) (cell : ℕ → Cell) (taken kinds : List ℕ) (row shown : ℕ) (step : Step)
    → IsFrontAt pieces_of text at found → AreFlatKinds kinds cell → IsScalar found.scalar → rest ≡ drop (at + found.size) text
    → step ≡ step_by (steps_in First) row (get_or kinds found.scalar 0)
    → verdict_shown shown ≡ verdict_between_in profile (map cell taken) (cell found.scalar ∷ map cell (scalars_of (pieces_of rest)))
    → KnowsTaken cell row taken
    → IsUnitDecided profile cell (on_from pieces_of text) at taken (record { shown = shown; row = step.next; at = at + found.size })
unit-decided pieces_of text rest at found profile cell taken kinds row shown step front are is_scalar is_rest same decides known =
    let c = found.scalar in
    let kind = get_or kinds c 0 in
    let here : IsSwiftStep First (left_at row) (kind_cell (real_kind kind)) step =
    subst (λ s. IsSwiftStep First (left_at row) (kind_cell (real_kind kind)) s) (sym same) (swift-step First (steps_in First) row kind refl known.0) in
    record {
      piece = front.piece;
      begins = front.begins;
      moved = ap (λ n. at + n) (sym front.sized);
      some = omega (arith, front.some, front.sized);
      knows = subst (λ x. KnowsTaken cell step.next (taken ++ x ∷ [])) (sym front.reads)
          (knows-more cell row step.next c (real_kind kind) (are c is_scalar) here.begins here.leads taken known);
      decides = decides
          ∙ ap (λ l. verdict_between_in profile (map cell taken) (cell c ∷ map cell (scalars_of (pieces_of l)))) is_rest
          ∙ ap (λ x. verdict_between_in profile (map cell taken) (cell x ∷ map cell (scalars_of (pieces_of (drop (at + found.size) text))))) (sym front.reads);
    }

-- UTF-8

pub utf8-front : (bs : List ℕ) (c size : ℕ) → 0 < length bs → c ≡ or_replacement (decoded bs).char → size ≡ (decoded bs).size
    → IsFront pieces bs (record { scalar = c; size = size })
utf8-front bs c size some reads sized =
    let p = decoded bs in
    let bounds = piece-bounds bs some in
    record {
      piece = p;
      begins = pieces-step bs some ∙ ap (λ n. p ∷ pieces (drop n bs)) (sym sized);
      reads = sym reads;
      sized = sym sized;
      some = omega (arith, bounds.0, sized);
      few = omega (arith, bounds.1, sized);
      within = omega (arith, bounds.2, sized);
    }

-- what is decided of units of 8 bits is decided of the bytes of a text
pub bytes-decided : (profile : Profile) (cell : ℕ → Cell) (text taken : List ℕ) (at : ℕ) (found : Decided) → at < length text
    → IsUnitDecided profile cell (on_from pieces text) at taken found → IsDecided profile cell text at taken found
bytes-decided profile cell text taken at found inside d =
    let same : d.piece ≡ decoded (drop at text) = ap (λ l. get_or l 0 (bad 1)) (sym d.begins ∙ pieces-on text at inside) in
    record {
      moved = d.moved ∙ ap (λ (p : Decoded). at + p.size) same;
      knows = subst (λ (p : Decoded). KnowsTaken cell found.row (taken ++ or_replacement p.char ∷ [])) same d.knows;
      decides = d.decides
          ∙ ap (λ (p : Decoded). verdict_between_in profile (map cell taken) (cell (or_replacement p.char) ∷ map cell (lossy_chars (drop found.at text)))) same;
    }
