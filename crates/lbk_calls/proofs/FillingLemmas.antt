-- Kinds that are filled by records.
use borrow.Rule.Slice.PartMut.{post_of, put_mid}
use Rattle.std.proofs.Common.{◌≡◌, ℕ, suc, ◌+◌, ◌-◌, ◌<◌, ◌≤◌, true, false, List, [], ◌∷◌, ◌++◌, eqb, refl, ap, sym, ◌∙◌, arith, length, take, drop, replicate, inl, inr, min}
use Rattle.std.proofs.Math.Seq.{take-add, take-length}
use Rattle.std.proofs.lemmas.Bool.{cases_lt, eqb-true}
use Rattle.std.proofs.lemmas.List.{drop-drop, length-append, length-drop, length-replicate, length-take-le}
use Rattle.std.proofs.lemmas.Slice.{take-put_mid}
use Rattle.lbk_calls.specs.declared.runs.Run.{Run}
use Rattle.lbk_calls.specs.Packing.{record_of, records_of}
use Rattle.lbk_calls.specs.Runs.{IsNext, one_code, runs_of, with_code}
use Rattle.lbk_calls.proofs.PackingLemmas.{records_of-next, records_of-none}

-- the run with which a list begins
pub record IsFirst (kinds : List ℕ) (run : Run) : Type 0 where
  pub some : 0 < run.length
  pub within : run.length ≤ length kinds
  pub same : take run.length kinds ≡ replicate run.length run.kind
  pub first : runs_of kinds ≡ run ∷ runs_of (drop run.length kinds)

one-first : (kind : ℕ) (rest : List ℕ) → runs_of (kind ∷ rest) ≡ one_code kind ∷ runs_of rest → IsFirst (kind ∷ rest) (one_code kind)
one-first kind rest first = record { some = omega arith; within = omega arith; same = refl; first = first }

joined-first : (kind : ℕ) (rest : List ℕ) (run : Run) → eqb kind run.kind ≡ true → IsFirst rest run
    → IsFirst (kind ∷ rest) (record { kind = kind; length = run.length + 1 })
unfolding runs_of with_code
joined-first kind rest run same is =
    let next : run.length + 1 ≡ suc run.length = omega arith in
    let kinds : kind ≡ run.kind = eqb-true kind run.kind same in
    record {
      some = omega arith;
      within = let w = is.within in omega arith;
      same = ap (λ n. take n (kind ∷ rest)) next ∙ ap (λ l. kind ∷ l) (is.same ∙ ap (replicate run.length) (sym kinds)) ∙ ap (λ n. replicate n kind) (sym next);
      first = ap (with_code kind) is.first ∙ rw same refl
          ∙ ap (λ n. record { kind = kind; length = run.length + 1 } ∷ runs_of (drop n (kind ∷ rest))) (sym next);
    }

apart-first : (kind : ℕ) (rest : List ℕ) (run : Run) → eqb kind run.kind ≡ false → IsFirst rest run → IsFirst (kind ∷ rest) (one_code kind)
unfolding runs_of with_code
apart-first kind rest run apart is =
    one-first kind rest (ap (with_code kind) is.first ∙ rw apart refl ∙ ap (λ l. one_code kind ∷ l) (sym is.first))

before-first : (kind : ℕ) (rest : List ℕ) (run : Run) → IsFirst rest run → (first : Run) × IsFirst (kind ∷ rest) first
before-first kind rest run is =
    elim (eqb kind run.kind) as (λ b. eqb kind run.kind ≡ b → (first : Run) × IsFirst (kind ∷ rest) first) [
      | true ↦ λ same. (record { kind = kind; length = run.length + 1 }, joined-first kind rest run same is)
      | false ↦ λ apart. (one_code kind, apart-first kind rest run apart is)
    ] refl

first-run : (kind : ℕ) (rest : List ℕ) → (run : Run) × IsFirst (kind ∷ rest) run
unfolding runs_of with_code
first-run kind [] = (one_code kind, one-first kind [] refl)
first-run kind (next ∷ rest) = let there = first-run next rest in before-first kind (next ∷ rest) there.0 there.1

front : (kinds : List ℕ) → 0 < length kinds → (run : Run) × IsFirst kinds run
front [] some = absurd (omega arith)
front (kind ∷ rest) some = first-run kind rest

-- kinds have a next run, and it stands there so many times
next-run : (kinds : List ℕ) (at : ℕ) → at < length kinds
    → (run : Run) × IsNext kinds at run × (take run.length (drop at kinds) ≡ replicate run.length run.kind)
next-run kinds at some =
    let size = length-drop at kinds in
    let there = front (drop at kinds) (omega arith) in
    let run = there.0 in
    let is = there.1 in (
      run,
      record {
        some = is.some;
        within = let w = is.within in omega arith;
        first = is.first ∙ ap (λ l. run ∷ runs_of l) (drop-drop run.length at kinds);
      },
      is.same,
    )

-- where the records are those of some kinds, the rest are those of the kinds that are left, and the others are there
pub record IsFilling (records start rest kinds : List ℕ) (at : ℕ) : Type 0 where
  pub within : at ≤ length kinds
  pub each : (all : List ℕ) → length all ≡ length start → records ≡ records_of all
      → (rest ≡ records_of (drop at all)) × (take at kinds ≡ take at all)

pub filling-none : (records start : List ℕ) → IsFilling records start records start 0
filling-none records start = record { within = omega arith; each = λ all long is. (is, refl) }

-- what a record is read as
abbrev pub IsRead : List ℕ → Run → List ℕ → Type 0
IsRead rest run after =
    (first : Run) (more : List ℕ) → 0 < first.length → first.length ≤ 0x11_0000 → rest ≡ record_of first ++ more → (run ≡ first) × (after ≡ more)

pub filling-on : (records start rest kinds after filled : List ℕ) (at end : ℕ) (run : Run) → IsFilling records start rest kinds at
    → length start ≤ 0x11_0000 → length kinds ≡ length start → IsRead rest run after → length after < length rest
    → end ≡ min (length kinds) (at + run.length) → filled ≡ replicate (end - at) run.kind
    → IsFilling records start after (put_mid at (end - at) kinds filled) end
filling-on records start rest kinds after filled at end run is most same read onward ends fills =
    let w = is.within in
    let long : length filled ≡ end - at = ap length fills ∙ length-replicate (end - at) run.kind in
    record {
      within =
          let rest = post_of at (end - at) kinds in
          omega (
            arith,
            length-append (take at kinds) (filled ++ rest),
            length-append filled rest,
            length-take-le at kinds w,
            length-drop (end - at) (drop at kinds),
            length-drop at kinds,
          );
      each = λ all size of.
          let was = is.each all size of in
          elim (cases_lt at (length all)) [
            | inl some ↦
                let next = next-run all at some in
                let first = next.0 in
                let inside = next.1.within in
                let here = read first (records_of (drop (at + first.length) all)) next.1.some (omega arith) (was.0 ∙ records_of-next all at first next.1) in
                let end_is : end ≡ at + first.length = ends ∙ ap (λ (r : Run). min (length kinds) (at + r.length)) here.0 ∙ omega arith in (
                  here.1 ∙ ap (λ n. records_of (drop n all)) (sym end_is),
                  take-put_mid at (end - at) kinds filled end (omega arith) w ∙ ap (λ l. l ++ filled) was.1
                      ∙ ap (λ l. take at all ++ l) (fills ∙ ap (λ (r : Run). replicate (end - at) r.kind) here.0 ∙ ap (λ n. replicate n first.kind) (omega arith) ∙ sym next.2)
                      ∙ sym (take-add at first.length all) ∙ ap (λ n. take n all) (sym end_is),
                )
            | inr past ↦ let none : length rest ≡ 0 = ap length (was.0 ∙ records_of-none all at past) in absurd (omega arith)
          ];
    }

pub filling-all : (records start rest kinds : List ℕ) (at : ℕ) → IsFilling records start rest kinds at → length start ≤ 0x11_0000 → length kinds ≡ length start
    → ((first : Run) (more : List ℕ) → 0 < first.length → first.length ≤ 0x11_0000 → rest ≡ record_of first ++ more → ⊥)
    → (all : List ℕ) → length all ≡ length start → records ≡ records_of all → kinds ≡ all
filling-all records start rest kinds at is most same none all size of =
    let was = is.each all size of in
    let w = is.within in
    elim (cases_lt at (length all)) [
      | inl some ↦
          let next = next-run all at some in
          let inside = next.1.within in
          absurd (none next.0 (records_of (drop (at + next.0.length) all)) next.1.some (omega arith) (was.0 ∙ records_of-next all at next.0 next.1))
      | inr past ↦
          sym (take-length kinds) ∙ ap (λ n. take n kinds) (omega arith) ∙ was.1 ∙ ap (λ n. take n all) (omega arith) ∙ take-length all
    ]
