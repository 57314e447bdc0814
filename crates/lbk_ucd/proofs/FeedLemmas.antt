-- Line ends CR LF read as LF, by the places at which they stand.
use Rattle.std.proofs.Common.{◌≡◌, ℕ, zero, suc, ◌==◌, ◌+◌, ◌<◌, ◌&&◌, true, false, cond, List, [], ◌∷◌, ◌++◌, length, get_or, take, drop, refl, ap, subst, ◌∙◌, arith, eq-eqb, eqb-true}
use Rattle.bstr.specs.Find.{OccursAt}
use Rattle.lbk_ucd.specs.Digests.{is_before_feed, with_line_feeds}

-- at no place before `at` stands a CR with an LF behind it
abbrev pub AreNoEnds : List ℕ → ℕ → Type 0
AreNoEnds text at = (k : ℕ) → k < at → ¬ (OccursAt text (13 ∷ 10 ∷ []) k)

reads-here : (b c : ℕ) (rest : List ℕ) → b ≡ 13 → c ≡ 10 → (j : ℕ) → j < 2 → get_or (b ∷ c ∷ rest) j 0 ≡ get_or (13 ∷ 10 ∷ []) j 0
reads-here b c rest cr lf zero few = cr
reads-here b c rest cr lf (suc zero) few = lf
reads-here b c rest cr lf (suc (suc j)) few = absurd (omega arith)

occurs-here : (b c : ℕ) (rest : List ℕ) → b ≡ 13 → c ≡ 10 → OccursAt (b ∷ c ∷ rest) (13 ∷ 10 ∷ []) 0
occurs-here b c rest cr lf = record {
  fits = omega arith;
  reads = λ j few. subst (λ n. get_or (b ∷ c ∷ rest) n 0 ≡ get_or (13 ∷ 10 ∷ []) j 0) (let e : j ≡ 0 + j = omega arith in e) (reads-here b c rest cr lf j few);
}

occurs-further : (b : ℕ) (rest : List ℕ) (k : ℕ) → OccursAt rest (13 ∷ 10 ∷ []) k → OccursAt (b ∷ rest) (13 ∷ 10 ∷ []) (suc k)
occurs-further b rest k occurs = record {
  fits = omega (arith, occurs.fits);
  reads = λ j few. subst (λ n. get_or (b ∷ rest) n 0 ≡ get_or (13 ∷ 10 ∷ []) j 0) (let e : suc (k + j) ≡ suc k + j = omega arith in e) (occurs.reads j few);
}

occurs-nearer : (b : ℕ) (rest : List ℕ) (k : ℕ) → OccursAt (b ∷ rest) (13 ∷ 10 ∷ []) (suc k) → OccursAt rest (13 ∷ 10 ∷ []) k
occurs-nearer b rest k occurs = record {
  fits = omega (arith, occurs.fits);
  reads = λ j few. subst (λ n. get_or (b ∷ rest) n 0 ≡ get_or (13 ∷ 10 ∷ []) j 0) (let e : suc k + j ≡ suc (k + j) = omega arith in e) (occurs.reads j few);
}

-- where none stands the byte stays
not-before : (b : ℕ) (rest : List ℕ) → ¬ (OccursAt (b ∷ rest) (13 ∷ 10 ∷ []) 0) → is_before_feed b rest ≡ false
not-before b [] none = elim (b == 13) as (λ x. x && (0 == 10) ≡ false) [ true ↦ refl | false ↦ refl ]
not-before b (c ∷ rest) none =
    elim (b == 13) as (λ x. b == 13 ≡ x → x && (c == 10) ≡ false) [
      | false ↦ λ _. refl
      | true ↦ λ cr.
          elim (c == 10) as (λ y. c == 10 ≡ y → true && y ≡ false) [
            | false ↦ λ _. refl
            | true ↦ λ lf. absurd (none (occurs-here b c rest (eqb-true b 13 cr) (eqb-true c 10 lf)))
          ] refl
    ] refl

-- a text without such a place stays as it is
pub feeds-none : (text : List ℕ) → AreNoEnds text (length text) → with_line_feeds text ≡ text
feeds-none [] none = refl
feeds-none (b ∷ rest) none =
    let here = not-before b rest (none 0 (omega arith)) in
    ap (λ t. cond t (with_line_feeds rest) (b ∷ with_line_feeds rest)) here
    ∙ ap (λ l. b ∷ l) (feeds-none rest (λ k few occurs. none (suc k) (omega arith) (occurs-further b rest k occurs)))

-- what stands before the first such place stays, and the CR goes
pub feeds-first : (text : List ℕ) (at : ℕ) → AreNoEnds text at → OccursAt text (13 ∷ 10 ∷ []) at
    → with_line_feeds text ≡ take at text ++ with_line_feeds (drop (at + 1) text)
feeds-first [] at none occurs = absurd (omega (arith, occurs.fits))
feeds-first (b ∷ rest) zero none occurs =
    let cr : b ≡ 13 = occurs.reads 0 (omega arith) in
    let lf : get_or rest 0 0 ≡ 10 = occurs.reads 1 (omega arith) in
    ap (λ t. cond t (with_line_feeds rest) (b ∷ with_line_feeds rest))
    (ap (λ x. x && (get_or rest 0 0 == 10)) (eq-eqb b 13 cr) ∙ ap (λ y. true && y) (eq-eqb (get_or rest 0 0) 10 lf))
feeds-first (b ∷ rest) (suc at) none occurs =
    let here = not-before b rest (none 0 (omega arith)) in
    let further = feeds-first rest at (λ k few o. none (suc k) (omega arith) (occurs-further b rest k o)) (occurs-nearer b rest at occurs) in
    ap (λ t. cond t (with_line_feeds rest) (b ∷ with_line_feeds rest)) here
    ∙ ap (λ l. b ∷ l) further
    ∙ ap (λ n. b ∷ (take at rest ++ with_line_feeds (drop n (b ∷ rest)))) (let e : suc (at + 1) ≡ suc at + 1 = omega arith in e)
