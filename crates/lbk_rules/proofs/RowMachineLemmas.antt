-- What follows for the cells of scalars from what a row knows of their normal cells.
use Rattle.std.proofs.Common.{◌≡◌, ℕ, ◌%◌, true, false, cond, Some, None, List, [], ◌∷◌, ◌++◌, length, map, reverse, refl, sym, ap, ◌∙◌, arith}
use Rattle.std.proofs.lemmas.Bool.{true≢false}
use Rattle.std.proofs.lemmas.List.{length-map, map-append}
use Rattle.lbk_uax14.specs.declared.cells.Cell.{Cell}
use Rattle.lbk_values.specs.declared.profile.Profile.{Profile}
use Rattle.lbk_uax14.specs.declared.verdicts.Verdict.{Verdict}
use Rattle.lbk_uax14.specs.declared.verdicts.Kind.TheVariants.{Must}
use Rattle.lbk_uax14.specs.declared.verdicts.Rule.TheVariants.{Lb3}
use Rattle.lbk_uax14.specs.Chain.{from_cells}
use Rattle.lbk_uax14.specs.Facts.{facts}
use Rattle.lbk_uax14.specs.Rules.{cell_rules}
use Rattle.lbk_uax14.specs.Sides.{Side}
use Rattle.lbk_uax14.specs.Held.{is_15b, is_held, now_at}
use Rattle.lbk_rules.specs.Kinds.{kind_cell, kind_of}
use Rattle.lbk_uax14.specs.Normal.{normal, normals}
use Rattle.lbk_uax14.specs.Verdict.{verdict_in, verdict_between_in}
use Rattle.lbk_rules.proofs.KindsLemmas.{kind-cell, kind-few}
use Rattle.lbk_uax14.proofs.HeldLemmas.{from_cells-settled, is_held-chain}
use Rattle.lbk_uax14.proofs.MachineLemmas.{reverse-snoc, verdict_in-append, verdict_in-chain, verdict_in-end}
use Rattle.lbk_uax14.proofs.NormalLemmas.{from_cells-normal, held-normal, reverse-map, verdict-normal}

-- the cell of the kind of a scalar
pub kind_same : (cell : ℕ → Cell) (c kind : ℕ) → kind ≡ kind_of (cell c) → kind_cell (kind % 128 % 84) ≡ normal (cell c)
kind_same cell c kind is =
    let few = kind-few (cell c) in
    let back : kind % 128 % 84 ≡ kind_of (cell c) = omega (arith, few, is) in
    ap kind_cell back ∙ kind-cell (cell c)

pub normals-snoc : (cell : ℕ → Cell) (taken : List ℕ) (c : ℕ) → normals cell (taken ++ c ∷ []) ≡ normals cell taken ++ normal (cell c) ∷ []
normals-snoc cell taken c =
    ap (map normal) (map-append cell taken (c ∷ [])) ∙ map-append normal (map cell taken) (cell c ∷ [])

pub normals-back : (cell : ℕ → Cell) (taken : List ℕ) (c : ℕ)
    → reverse (normals cell (taken ++ c ∷ [])) ≡ normal (cell c) ∷ reverse (normals cell taken)
normals-back cell taken c = ap reverse (normals-snoc cell taken c) ∙ reverse-snoc (normals cell taken) (normal (cell c))

pub normals-length : (cell : ℕ → Cell) (taken : List ℕ) → length (normals cell taken) ≡ length taken
normals-length cell taken = length-map (map cell taken) normal ∙ length-map taken cell

-- the verdict as if the text ended behind the cell
pub so_far-normal : (profile : Profile) (cell : ℕ → Cell) (taken : List ℕ) (c : ℕ) (verdict : Verdict)
    → verdict ≡ from_cells profile (reverse (normals cell taken)) (normal (cell c) ∷ [])
    → verdict ≡ from_cells profile (reverse (map cell taken)) (cell c ∷ [])
so_far-normal profile cell taken c verdict so_far =
    so_far
    ∙ ap (λ l. from_cells profile l (normal (cell c) ∷ [])) (reverse-map normal (map cell taken))
    ∙ from_cells-normal profile (reverse (map cell taken)) (cell c ∷ [])

pub so_far-held : (profile : Profile) (cell : ℕ → Cell) (taken : List ℕ) (c : ℕ) (more : List Cell) (verdict : Verdict)
    → verdict ≡ from_cells profile (reverse (map cell taken)) (cell c ∷ [])
    → is_held profile (map cell taken) (cell c ∷ more) ≡ is_15b verdict.rule
so_far-held profile cell taken c more verdict so_far =
    is_held-chain profile (map cell taken) (cell c) more ∙ ap (λ v. is_15b v.rule) (sym so_far)

pub so_far-decides : (profile : Profile) (cell : ℕ → Cell) (taken : List ℕ) (c : ℕ) (more : List Cell) (verdict : Verdict)
    → verdict ≡ from_cells profile (reverse (map cell taken)) (cell c ∷ []) → is_15b verdict.rule ≡ false
    → verdict ≡ verdict_in profile (map cell taken ++ cell c ∷ more) (length taken)
so_far-decides profile cell taken c more verdict so_far settled =
    so_far
    ∙ sym (from_cells-settled profile (reverse (map cell taken)) (cell c) more (ap (λ v. is_15b v.rule) (sym so_far) ∙ settled))
    ∙ sym (verdict_in-chain profile (map cell taken) (cell c ∷ more))
    ∙ ap (λ k. verdict_in profile (map cell taken ++ cell c ∷ more) k) (length-map taken cell)

pub end-normal : (profile : Profile) (cell : ℕ → Cell) (taken : List ℕ) (verdict : Verdict)
    → verdict ≡ from_cells profile (reverse (normals cell taken)) []
    → verdict ≡ verdict_in profile (map cell taken) (length taken)
end-normal profile cell taken verdict ends =
    ends
    ∙ sym (verdict_in-end profile (normals cell taken))
    ∙ verdict-normal profile (map cell taken) (length (normals cell taken))
    ∙ ap (λ k. verdict_in profile (map cell taken) k) (normals-length cell taken)

-- where some cell is on the left, a line must end at the end of the text
pub end-must : (profile : Profile) (side : Side) → (facts side).empty ≡ false → from_cells profile side [] ≡ record { kind = Must; rule = Lb3 }
unfolding facts from_cells cell_rules
end-must profile [] none = absurd (true≢false none)
end-must profile (cell ∷ side) some = refl

-- whether the position before a cell is held, by the normal cells
pub held-chain-normal : (profile : Profile) (cell : ℕ → Cell) (taken : List ℕ) (c : ℕ)
    → is_15b (from_cells profile (reverse (normals cell taken)) (normal (cell c) ∷ [])).rule
    ≡ is_held profile (map cell taken) (cell c ∷ [])
held-chain-normal profile cell taken c =
    sym (is_held-chain profile (normals cell taken) (normal (cell c)) [])
    ∙ held-normal profile (map cell taken) (cell c ∷ [])

-- the verdict is given at once, unless the position is held
pub now-told : (profile : Profile) (cell : ℕ → Cell) (taken : List ℕ) (c : ℕ) (more : List Cell) (verdict : Verdict)
    → is_held profile (map cell taken) (cell c ∷ more) ≡ is_15b verdict.rule
    → (is_15b verdict.rule ≡ false → verdict ≡ verdict_in profile (map cell taken ++ cell c ∷ more) (length taken))
    → cond (is_15b verdict.rule) None (Some verdict) ≡ now_at profile (map cell taken) (cell c ∷ more)
now-told profile cell taken c more verdict held decides =
    let cells = map cell taken in
    let whole = verdict_between_in profile cells (cell c ∷ more) in
    (elim (is_15b verdict.rule) as (λ v. is_15b verdict.rule ≡ v → cond v None (Some verdict) ≡ cond v None (Some whole)) [
      | true ↦ λ _. refl
      | false ↦ λ settled.
          ap Some (decides settled
          ∙ ap (λ k. verdict_in profile (cells ++ cell c ∷ more) k) (sym (length-map taken cell))
          ∙ verdict_in-append profile cells (cell c ∷ more))
    ]) refl
    ∙ ap (λ v. cond v None (Some whole)) (sym held)
