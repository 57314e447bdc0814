-- The first run of a list of kinds.
use Rattle.std.proofs.Common.{◌≡◌, ℕ, ◌+◌, ◌-◌, ◌<◌, ◌≤◌, true, false, List, [], ◌∷◌, ◌++◌, replicate, refl, ap, sym, ◌∙◌, arith, eqb, cond, length, take, drop, get_or, zero, suc, rules}
use Rattle.std.proofs.Math.Seq.{take-length}
use Rattle.std.proofs.lemmas.List.{get_or-drop, length-drop, take-append-drop}
use Rattle.std.proofs.lemmas.Bool.{ne_eqb}
use Rattle.lbk_calls.specs.declared.runs.Run.{Run}
use Rattle.lbk_calls.specs.Runs.{one_code, runs_of, with_code}

-- another kind stands first, if one does
abbrev pub BeginsElse : ℕ → List ℕ → Type 0
BeginsElse kind [] = Unit {0}
BeginsElse kind (first ∷ rest) = eqb kind first ≡ false

with_code-other : (kind other : ℕ) (runs : List Run) → eqb kind other ≡ false
    → with_code kind (with_code other runs) ≡ one_code kind ∷ with_code other runs
unfolding with_code
with_code-other kind other [] apart = rw apart refl
with_code-other kind other (run ∷ runs) apart =
    elim (eqb other run.kind) as (λ b. with_code kind (cond b (record { kind = other; length = run.length + 1 } ∷ runs) (one_code other ∷ (run ∷ runs)))
    ≡ one_code kind ∷ cond b (record { kind = other; length = run.length + 1 } ∷ runs) (one_code other ∷ (run ∷ runs)))
    [ true ↦ rw apart refl | false ↦ rw apart refl ]

runs_of-one : (kind : ℕ) (rest : List ℕ) → BeginsElse kind rest → runs_of (kind ∷ rest) ≡ one_code kind ∷ runs_of rest
unfolding runs_of with_code
runs_of-one kind [] apart = refl
runs_of-one kind (other ∷ rest) apart = with_code-other kind other (runs_of rest) apart

one-more : (kind many : ℕ) (runs : List Run)
    → with_code kind (record { kind = kind; length = many } ∷ runs) ≡ record { kind = kind; length = many + 1 } ∷ runs
unfolding with_code
one-more kind many runs = let same : eqb kind kind ≡ true = search rules in rw same refl

-- a kind that stands some times more, and then no longer, is one run
pub runs_of-run : (kind more : ℕ) (rest : List ℕ) → BeginsElse kind rest
    → runs_of (kind ∷ (replicate more kind ++ rest)) ≡ record { kind = kind; length = more + 1 } ∷ runs_of rest
unfolding runs_of
runs_of-run kind zero rest apart = runs_of-one kind rest apart
runs_of-run kind (suc more) rest apart =
    ap (with_code kind) (runs_of-run kind more rest apart) ∙ one-more kind (more + 1) (runs_of rest) ∙ ap (λ (n : ℕ). record { kind = kind; length = n } ∷ runs_of rest) (omega arith)

begins-else : (kind : ℕ) (rest : List ℕ) → (0 < length rest → get_or rest 0 0 ≡ kind → ⊥) → BeginsElse kind rest
begins-else kind [] apart = tt
begins-else kind (first ∷ rest) apart = ne_eqb kind first (λ same. apart (omega arith) (sym same))

first_of : (kind n : ℕ) (kinds rest : List ℕ) → 0 < n → kinds ≡ replicate n kind ++ rest → BeginsElse kind rest
    → runs_of kinds ≡ record { kind = kind; length = n } ∷ runs_of rest
first_of kind zero kinds rest some is apart = absurd (omega arith)
first_of kind (suc more) kinds rest some is apart =
    ap runs_of is ∙ runs_of-run kind more rest apart ∙ ap (λ (n : ℕ). record { kind = kind; length = n } ∷ runs_of rest) (omega arith)

-- the front of a list in which one kind stands is its first run, where another kind or nothing follows
pub runs_of-first : (kind n : ℕ) (kinds : List ℕ) → 0 < n → n ≤ length kinds → take n kinds ≡ replicate n kind
    → (n < length kinds → get_or kinds n 0 ≡ kind → ⊥) → runs_of kinds ≡ record { kind = kind; length = n } ∷ runs_of (drop n kinds)
runs_of-first kind n kinds some within same apart =
    let there : get_or kinds n 0 ≡ get_or (drop n kinds) 0 0 = ap (λ i. get_or kinds i 0) (omega arith) ∙ sym (get_or-drop n kinds 0 0) in
    first_of kind n kinds (drop n kinds) some
    (sym (take-append-drop n kinds) ∙ ap (λ front. front ++ drop n kinds) same)
    (begins-else kind (drop n kinds) (λ more here. apart (omega (arith, simp length-drop at more)) (there ∙ here)))

-- the part of a list from a place on, as a slice has it
pub tail : (at : ℕ) (kinds : List ℕ) → take (length kinds - at) (drop at kinds) ≡ drop at kinds
tail at kinds = ap (λ n. take n (drop at kinds)) (sym (length-drop at kinds)) ∙ take-length (drop at kinds)
