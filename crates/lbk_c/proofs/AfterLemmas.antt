-- The breaks after a break are those of the text that begins there.
use Rattle.std.proofs.Common.{◌≡◌, ◌⊎◌, inl, inr, ℕ, ◌+◌, ◌<◌, ◌≤◌, true, false, List, [], ◌∷◌, ◌++◌, if◌then◌else◌, length, drop, map, reverse, refl, sym, ap, ap₂, subst, ◌∙◌}
use Rattle.std.proofs.lemmas.List.{drop_all}
use Rattle.std.proofs.Math.Logic.{⊎_elim}
use Rattle.bstr.specs.Utf8.{Decoded, decoded, or_replacement, pieces}
use Rattle.bstr.proofs.lemmas.PieceLemmas.{pieces-nil}
use Rattle.lbk_rules.specs.declared.Break.{Break}
use Rattle.lbk_rules.specs.declared.Cell.{Cell}
use Rattle.lbk_rules.specs.declared.Verdict.{Verdict}
use Rattle.lbk_values.specs.declared.profile.Profile.{Profile}
use Rattle.lbk_rules.specs.Breaks.{break_by, is_no}
use Rattle.lbk_rules.specs.Facts.{facts}
use Rattle.lbk_rules.specs.Joins.{moved}
use Rattle.lbk_rules.specs.Normal.{normal, normals}
use Rattle.lbk_rules.specs.Verdict.{verdict_between_in}
use Rattle.lbk_rules.proofs.AlikeLemmas.{facts-alike, from_cells-alike}
use Rattle.lbk_rules.proofs.ChainLemmas.{verdict_between-chain}
use Rattle.lbk_rules.proofs.EndLemmas.{start_of_text}
use Rattle.lbk_rules.proofs.JoinLemmas.{map-moved-none}
use Rattle.lbk_rules.proofs.NormalLemmas.{between-normal}
use Rattle.lbk_rules.proofs.RestartLemmas.{facts-anew}
use Rattle.lbk_rules.proofs.RowMachineLemmas.{normals-back}
use Rattle.lbk_bytes.specs.Bytes.{breaks_of_bytes, with_break}
use Rattle.lbk_bytes.specs.Reached.{onward, scalars_of}
use Rattle.lbk_bytes.proofs.BlockLemmas.{order}
use Rattle.lbk_bytes.proofs.PartLemmas.{part-onward}
use Rattle.lbk_bytes.proofs.PieceLemmas.{piece-within, pieces-on}

-- What comes is told by what the rules ask about the scalars before it

between-alike : (profile : Profile) (cell : ℕ → Cell) (a b : List ℕ) (right : List Cell) → facts (reverse (normals cell a)) ≡ facts (reverse (normals cell b))
    → verdict_between_in profile (map cell a) right ≡ verdict_between_in profile (map cell b) right
between-alike profile cell a b right same =
    sym (between-normal profile (map cell a) right)
    ∙ verdict_between-chain profile (normals cell a) (map normal right)
    ∙ from_cells-alike profile (reverse (normals cell a)) (reverse (normals cell b)) (map normal right) same
    ∙ sym (verdict_between-chain profile (normals cell b) (map normal right))
    ∙ between-normal profile (map cell b) right

facts-on : (cell : ℕ → Cell) (a b : List ℕ) (c : ℕ) → facts (reverse (normals cell a)) ≡ facts (reverse (normals cell b))
    → facts (reverse (normals cell (a ++ c ∷ []))) ≡ facts (reverse (normals cell (b ++ c ∷ [])))
facts-on cell a b c same =
    ap facts (normals-back cell a c)
    ∙ facts-alike (normal (cell c)) (reverse (normals cell a)) (reverse (normals cell b)) same
    ∙ sym (ap facts (normals-back cell b c))

onward-alike : (profile : Profile) (cell : ℕ → Cell) (a b : List ℕ) (at : ℕ) (ps : List Decoded) → facts (reverse (normals cell a)) ≡ facts (reverse (normals cell b))
    → onward profile cell a at ps ≡ onward profile cell b at ps
onward-alike profile cell a b at [] same = ap (λ v. with_break at v []) (between-alike profile cell a b [] same)
onward-alike profile cell a b at (p ∷ ps) same =
    ap₂ (λ (v : Verdict) (more : List Break). with_break at v more)
    (between-alike profile cell a b (map cell (scalars_of (p ∷ ps))) same)
    (onward-alike profile cell (a ++ or_replacement p.char ∷ []) (b ++ or_replacement p.char ∷ []) (at + p.size) ps
    (facts-on cell a b (or_replacement p.char) same))

-- A break of a list

no-split : (front back : List Break) (here : Break) → [] ≡ front ++ here ∷ back → ⊥
no-split [] back here none = (let nothing : [] ≡ here ∷ back = none in cc)
no-split (b ∷ front) back here none = (let nothing : [] ≡ b ∷ front ++ here ∷ back = none in cc)

-- a break of a list is its first one, or one of those behind that
split-head : (b : Break) (bs front back : List Break) (here : Break) → b ∷ bs ≡ front ++ here ∷ back
    → ((here ≡ b) × (back ≡ bs)) ⊎ ((rest : List Break) × (bs ≡ rest ++ here ∷ back))
split-head b bs [] back here is =
    let same : b ∷ bs ≡ here ∷ back = is in
    inl ((let head : here ≡ b = cc in head), (let tail : back ≡ bs = cc in tail))
split-head b bs (x ∷ front) back here is =
    let same : b ∷ bs ≡ x ∷ front ++ here ∷ back = is in
    inr (front, (let tail : bs ≡ front ++ here ∷ back = cc in tail))

module _ (rules : Profile) (cell : ℕ → Cell) where
  -- at its start a text has no break
  onward-none : (at : ℕ) → onward rules cell [] at [] ≡ []
  onward-none at = ap (λ (v : Verdict). with_break at v []) (start_of_text rules [])

  pub onward-first : (at : ℕ) (p : Decoded) (ps : List Decoded) → onward rules cell [] at (p ∷ ps) ≡ onward rules cell (or_replacement p.char ∷ []) (at + p.size) ps
  onward-first at p ps =
      ap (λ (v : Verdict). with_break at v (onward rules cell (or_replacement p.char ∷ []) (at + p.size) ps))
      (start_of_text rules (map cell (scalars_of (p ∷ ps))))

  module _ (text : List ℕ) where
    -- from a piece on
    record Goes (at : ℕ) (p : Decoded) (ps : List Decoded) : Type 0 where
      within : at + p.size ≤ length text
      next : pieces (drop (at + p.size) text) ≡ ps

    goes : (at : ℕ) (p : Decoded) (ps : List Decoded) → pieces (drop at text) ≡ p ∷ ps → Goes at p ps
    goes at p ps is =
        ⊎_elim (λ (past : length text ≤ at). absurd (let none : [] ≡ p ∷ ps = sym pieces-nil ∙ sym (ap pieces (drop_all at text past)) ∙ is in cc))
        (λ (inside : at < length text).
        let both : decoded (drop at text) ∷ pieces (drop (at + (decoded (drop at text)).size) text) ≡ p ∷ ps = sym (pieces-on text at inside) ∙ is in
        let head : decoded (drop at text) ≡ p = cc in
        let tail : pieces (drop (at + (decoded (drop at text)).size) text) ≡ ps = cc in
        let g : Goes at p ps = record {
          within = subst (λ (q : Decoded). at + q.size ≤ length text) head (piece-within text at inside).1;
          next = ap (λ (q : Decoded). pieces (drop (at + q.size) text)) (sym head) ∙ tail;
        } in g)
        (order at (length text))

    after-end : (before : List ℕ) (at : ℕ) (front back : List Break) (here : Break) → pieces (drop at text) ≡ []
        → onward rules cell before at [] ≡ front ++ here ∷ back
        → back ≡ onward rules cell [] here.at (pieces (drop here.at text))
    after-end before at front back here ends is =
        let v = verdict_between_in rules (map cell before) [] in
        elim (is_no v.kind) as (λ b. (if b then [] else break_by at v ∷ []) ≡ front ++ here ∷ back → back ≡ onward rules cell [] here.at (pieces (drop here.at text))) [
          | true ↦ λ none. absurd (no-split front back here none)
          | false ↦ λ some.
              ⊎_elim (λ (first : (here ≡ break_by at v) × (back ≡ [])).
              first.1 ∙ sym (onward-none at) ∙ ap (onward rules cell [] at) (sym ends)
              ∙ ap (λ (h : Break). onward rules cell [] h.at (pieces (drop h.at text))) (sym first.0))
              (λ (later : (rest : List Break) × ([] ≡ rest ++ here ∷ back)). absurd (no-split later.0 back here later.1))
              (split-head (break_by at v) [] front back here some)
        ] is

    pub after-from : (ps : List Decoded) (before : List ℕ) (at : ℕ) (front back : List Break) (here : Break) → pieces (drop at text) ≡ ps
        → onward rules cell before at ps ≡ front ++ here ∷ back
        → back ≡ onward rules cell [] here.at (pieces (drop here.at text))
    after-from [] before at front back here ends is = after-end before at front back here ends is
    after-from (p ∷ ps) before at front back here begins is =
        let c = or_replacement p.char in
        let v = verdict_between_in rules (map cell before) (map cell (scalars_of (p ∷ ps))) in
        let more = onward rules cell (before ++ c ∷ []) (at + p.size) ps in
        let on = goes at p ps begins in
        elim (is_no v.kind) as (λ b. is_no v.kind ≡ b → (if b then more else break_by at v ∷ more) ≡ front ++ here ∷ back → back ≡ onward rules cell [] here.at (pieces (drop here.at text))) [
          | true ↦ λ none is. after-from ps (before ++ c ∷ []) (at + p.size) front back here on.next is
          | false ↦ λ breaks is.
              ⊎_elim (λ (first : (here ≡ break_by at v) × (back ≡ more)).
              first.1
              ∙ onward-alike rules cell (before ++ c ∷ []) (c ∷ []) (at + p.size) ps
              (ap facts (normals-back cell before c) ∙ facts-anew rules (map cell before) (cell c) (map cell (scalars_of ps)) breaks)
              ∙ sym (onward-first at p ps) ∙ ap (onward rules cell [] at) (sym begins)
              ∙ ap (λ (h : Break). onward rules cell [] h.at (pieces (drop h.at text))) (sym first.0))
              (λ (later : (rest : List Break) × (more ≡ rest ++ here ∷ back)). after-from ps (before ++ c ∷ []) (at + p.size) later.0 back here on.next later.1)
              (split-head (break_by at v) more front back here is)
        ] refl is

-- the breaks after a break are those of the text that begins there, moved by the bytes before it
pub after-break : (rules : Profile) (cell : ℕ → Cell) (text : List ℕ) (front back : List Break) (here : Break)
    → breaks_of_bytes rules cell text ≡ front ++ here ∷ back
    → back ≡ map (moved here.at) (breaks_of_bytes rules cell (drop here.at text))
after-break rules cell text front back here is =
    after-from rules cell text (pieces text) [] 0 front back here refl
    (sym (part-onward false rules cell 0 text) ∙ map-moved-none (breaks_of_bytes rules cell text) ∙ is)
    ∙ sym (part-onward false rules cell here.at (drop here.at text))
