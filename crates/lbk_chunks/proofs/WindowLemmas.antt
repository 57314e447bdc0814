-- The way to the cut at a byte.
use Rattle.std.proofs.Common.{◌≡◌, ℕ, ◌-◌, ◌++◌, ◌<◌, ◌≤◌, ⊎_elim, List, [], ◌∷◌, length, take, slice_index_or, refl, sym, ap, subst, ◌∙◌, arith}
use Rattle.std.proofs.lemmas.Bool.{cases_lt}
use Rattle.lbk_rules.specs.declared.Cell.{Cell}
use Rattle.lbk_rules.specs.declared.neighbours.Neighbours.{Neighbours}
use Rattle.lbk_chunks.specs.declared.cut.Cut.{Cut}
use Rattle.lbk_chunks.specs.declared.cursor.Filled.{Filled}
use Rattle.lbk_chunks.specs.declared.cut.Mark.{Mark}
use Rattle.lbk_chunks.specs.Chunks.{cuts_past}
use Rattle.lbk_chunks.specs.Coming.{AreCutsPast, AreFirst, IsAhead, IsMark, IsStanding, no_cut}
use Rattle.lbk_chunks.proofs.BlockLemmas.{mark-behind}
use Rattle.lbk_chunks.proofs.CutLemmas.{first-later, none-past}

-- a cut stands at a byte, so some cut is past an earlier byte
standing-none : (cuts : List Cut) (from at words : ℕ) → IsStanding cuts at words → from < at → cuts_past from cuts ≡ [] → ⊥
standing-none cuts from at words s below none =
    let c = s.0 in
    let h : cuts_past (c.at - 1) cuts ≡ [] = none-past cuts from (c.at - 1) (omega (arith, s.1, below)) none in
    let no : [] ≡ c ∷ cuts_past c.at cuts = sym h ∙ s.3.joined in
    let wrong : ⊥ = cc in wrong

-- and the first of those is not past it
standing-next : (cuts : List Cut) (from at words : ℕ) (d : Cut) (rest : List Cut) → IsStanding cuts at words → from < at → cuts_past from cuts ≡ d ∷ rest → d.at ≤ at
standing-next cuts from at words d rest s below joined =
    let c = s.0 in
    ⊎_elim
    (λ (past : at < d.at). (
    let here : cuts_past (c.at - 1) cuts ≡ d ∷ rest = first-later cuts from (c.at - 1) d rest (omega (arith, s.1, below)) (omega (arith, s.1, past)) joined in
    let both : d ∷ rest ≡ c ∷ cuts_past c.at cuts = sym here ∙ s.3.joined in
    let one : d ≡ c = cc in
    let same = ap (λ (x : Cut). x.at) one in
    absurd (omega (arith, same, past, s.1))))
    (λ (within : d.at ≤ at). within)
    (cases_lt at d.at)

one-front : (out : List Cut) → length out ≡ 64 → take 1 out ≡ slice_index_or out 0 no_cut ∷ []
one-front [] size = absurd (omega arith)
one-front (c ∷ cs) size = refl

module _ (cell : ℕ → Cell) (kinds : List ℕ) (pairs : Neighbours) (text : List ℕ) (cuts : List Cut) (rising : AreCutsPast 0 cuts) (at words : ℕ) (stands : IsStanding cuts at words) where
  -- the place there
  pub place-there : (here : Mark) → IsMark cell kinds pairs text cuts here → here.at ≤ at → at ≤ here.at
      → IsAhead cell kinds pairs text here.place (cuts_past at cuts) × (here.place.words ≡ words)
  place-there here is before after =
      let same : here.at ≡ at = omega (arith, before, after) in (
        subst (λ n. IsAhead cell kinds pairs text here.place (cuts_past n cuts)) same is.ahead,
        is.counted stands.0 (stands.1 ∙ sym same) stands.3 ∙ stands.2,
      )

  -- one cut further
  pub place-on : (here behind : Mark) (out : List Cut) (filled : Filled) → IsMark cell kinds pairs text cuts here → here.at < at
      → AreFirst cell kinds pairs text (cuts_past here.at cuts) 1 out filled → filled.count ≡ 1 → length out ≡ 64
      → behind.place ≡ filled.place → behind.at ≡ (slice_index_or out 0 no_cut).at
      → filled.place.words ≡ (slice_index_or out (filled.count - 1) no_cut).words
      → IsMark cell kinds pairs text cuts behind × (behind.at ≤ at)
  place-on here behind out filled is below first one size same_place same_at counted =
      let zero_there : filled.count - 1 ≡ 0 = omega (arith, one) in
      let there : behind.at ≡ (slice_index_or out (filled.count - 1) no_cut).at = same_at ∙ ap (λ n. (slice_index_or out n no_cut).at) (sym zero_there) in
      let front : take filled.count out ≡ slice_index_or out 0 no_cut ∷ [] = ap (λ n. take n out) one ∙ one-front out size in
      let joined : cuts_past here.at cuts ≡ slice_index_or out 0 no_cut ∷ first.rest = first.joined ∙ ap (λ l. l ++ first.rest) front in
      let before = standing-next cuts here.at at words (slice_index_or out 0 no_cut) first.rest stands below joined in (
        mark-behind cell kinds pairs text cuts rising here behind 1 out filled is first (omega (arith, one)) (omega (arith, one, size)) same_place there counted,
        omega (arith, before, same_at),
      )

  pub place-none : (here : Mark) (out : List Cut) (filled : Filled) → here.at < at → AreFirst cell kinds pairs text (cuts_past here.at cuts) 1 out filled → filled.count ≡ 0 → ⊥
  place-none here out filled below first none =
      standing-none cuts here.at at words stands below
      (first.joined ∙ ap (λ l. l ++ first.rest) (ap (λ n. take n out) none) ∙ first.all (omega (arith, none)))
