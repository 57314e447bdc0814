use Rattle.std.proofs.Common.{◌≡◌, ◌∙◌, ◌<◌, ◌+◌, ℕ, true, false, suc, List, Some, length, drop, drop-cons}
use Rattle.std.proofs.Common.{drop_of_length-le, refl, sym, ap, arith}
use Rattle.std.specs.List.{slice_index_or}
use Rattle.std.specs.Str.{bytes_eq}
use Rattle.std.specs.Borrow.{Bor}
use Rattle.lbk_files.specs.MemoryStore.{contents_of}
use Rattle.lbk_files.proofs.memory_store.MemoryStore.contents.Goals as goal

-- the next file has the name, or is passed over
here : (files : List (Bor (List ℕ) × Bor (List ℕ))) (name : List ℕ) (i : ℕ) (d : Bor (List ℕ) × Bor (List ℕ))
    → i < length files
    → bytes_eq (slice_index_or files i d).0.now name ≡ true
    → contents_of (drop i files) name ≡ Some (slice_index_or files i d).1.now
here files name i d lt same = rw (drop-cons files i d lt) (rw same refl)

passed : (files : List (Bor (List ℕ) × Bor (List ℕ))) (name : List ℕ) (i : ℕ) (d : Bor (List ℕ) × Bor (List ℕ))
    → i < length files
    → bytes_eq (slice_index_or files i d).0.now name ≡ false
    → contents_of (drop (i + 1) files) name ≡ contents_of (drop i files) name
passed files name i d lt other =
    let next : i + 1 ≡ suc i = omega arith in
    rw (next, drop-cons files i d lt) (rw other refl)

pub returns-then-eq : goal.returns-then-eq
returns-then-eq c = sym c.loop-other.invariant ∙ here _ _ _ _ c.loop-other-test.true (sym c.eq.ensures ∙ c.if-eq.true)

pub loop-other-preserved : goal.loop-other-preserved
loop-other-preserved c = passed _ _ _ _ c.loop-other-test.true (sym c.eq.ensures ∙ c.if-eq.false)
    ∙ c.loop-other.invariant

pub returns : goal.returns
returns c = sym c.loop-other.invariant ∙ ap (λ files. contents_of files c.args.name.now)
    (drop_of_length-le c.args.self.now.files.now (omega arith))
