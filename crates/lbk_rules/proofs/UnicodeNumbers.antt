-- What the steps tell of bytes side by side, and the digest, in Unicode 15.0.0: the constants are what the kinds give.
use Rattle.std.proofs.Common.{◌≡◌, ℕ, zero, suc, ◌+◌, ◌-◌, ◌*◌, ◌/◌, ◌%◌, ◌<◌, ◌≤◌, ◌==◌, ◌&&◌, Bool, true, cond, List, [], ◌∷◌, get_or, drop, nat_le, nat_lt, refl, sym, ap, ap₂, ◌∙◌, arith, eqb-true, subst}
use Rattle.std.proofs.Math.ListN.{replicate}
use Rattle.std.specs.Prelude.{fold}
use Rattle.std.proofs.lemmas.List.{get_or-drop}
use Rattle.std.proofs.lemmas.List.Sums.{fold-append}
use Rattle.lbk_uax14.specs.Classes.{is}
use Rattle.lbk_rules.specs.declared.neighbours.TheConstants.{CONTINUING, LETTER, OTHER}
use Rattle.lbk_rules.specs.declared.unicode_kinds.TheConstants.{UNICODE_KINDS}
use Rattle.lbk_rules.specs.declared.unicode_runs.TheConstants.{UNICODE_DIGEST, UNICODE_NEIGHBOURS, UNICODE_RUNS}
use Rattle.lbk_rules.specs.Kinds.{kind_of, kinds_of_cells}
use Rattle.lbk_rules.specs.Neighbours.{AreNeighboursOf, are_letters, class_of_byte, class_of_kind, digest_of_neighbours, digest_with, row_of_byte, row_of_kind}
use Rattle.lbk_rules.specs.Unicode.{unicode_cell}
use Rattle.lbk_rules.proofs.CellTableLemmas.{kinds-at}
use Rattle.lbk_rules.proofs.RowChecks.{each_below}
use Rattle.lbk_rules.proofs.RowLemmas.{each_below-at}
use Rattle.lbk_rules.proofs.UnicodeRuns.{Runs, kind_numbered, kinds-from, kinds_from}
use Rattle.lbk_rules.proofs.UnicodeTables.{near-kind}

-- Bytes side by side

abbrev kinds : List ℕ
kinds = kinds_of_cells unicode_cell

alike : (code : ℕ) → code < 0x1_0000 → get_or kinds code 0 ≡ get_or UNICODE_KINDS code 0
alike code near = kinds-at unicode_cell code (omega arith) ∙ sym (near-kind code near)

letters-alike : (from n : ℕ) → from + n ≤ 0x1_0000 → are_letters kinds from n ≡ are_letters (drop from UNICODE_KINDS) 0 n
unfolding are_letters
letters-alike from zero near = refl
letters-alike from (suc n) near =
    ap₂ (λ kind rest. (kind == LETTER) && rest)
    (alike (from + n) (omega arith) ∙ sym (get_or-drop from UNICODE_KINDS (0 + n) 0 ∙ ap (λ at. get_or UNICODE_KINDS (from + at) 0) (omega arith)))
    (letters-alike from n (omega arith))

-- the class of a byte, by the kind of its number and whether the codes that it begins are letters
abbrev class_by : ℕ → ℕ → Bool → ℕ
class_by byte kind letters =
    cond (nat_lt byte 128) (class_of_kind kind)
    (cond (nat_lt byte 192) CONTINUING
    (cond ((nat_le 0xC2 byte && nat_lt byte 0xE0) && ((kind == LETTER) && letters)) (class_of_kind LETTER) OTHER))

abbrev class_at : ℕ → ℕ
class_at byte = class_by byte (get_or UNICODE_KINDS byte 0) (are_letters (drop ((byte - 192) * 64) UNICODE_KINDS) 0 64)

class-at : (byte : ℕ) → byte < 256 → class_of_byte kinds byte ≡ class_at byte
class-at byte few = ap₂ (class_by byte) (alike byte (omega arith)) (letters-alike ((byte - 192) * 64) 64 (omega arith))

class_ok : ℕ → ℕ → Bool
class_ok row place =
    get_or (get_or UNICODE_NEIGHBOURS.sets.classes row []) place 0 == class_at (16 * row + place) + 16 * class_at (128 + (16 * row + place))

row_ok : ℕ → Bool
row_ok byte = get_or UNICODE_NEIGHBOURS.rows byte 0 == row_of_byte UNICODE_KINDS byte

classes_ok : each_below (λ row. each_below (class_ok row) 16) 8 ≡ true
unfolding each_below are_letters class_ok
classes_ok = refl

rows_ok : each_below row_ok 256 ≡ true
unfolding each_below row_ok
rows_ok = refl

pub unicode-neighbours : AreNeighboursOf (kinds_of_cells unicode_cell) UNICODE_NEIGHBOURS
unfolding class_ok row_ok
unicode-neighbours = record {
  left = refl;
  right = refl;
  classes = λ row place few below.
      eqb-true _ _ (each_below-at (class_ok row) 16 place (each_below-at (λ r. each_below (class_ok r) 16) 8 row classes_ok few) below)
      ∙ sym (ap₂ (λ low high. low + 16 * high) (class-at (16 * row + place) (omega arith)) (class-at (128 + (16 * row + place)) (omega arith)));
  rows = λ byte few.
      eqb-true _ _ (each_below-at row_ok 256 byte rows_ok few)
      ∙ sym (ap (λ kind. row_of_kind (cond (nat_lt byte 128) kind LETTER)) (alike byte (omega arith)));
}

-- The digest

-- a digest after a kind so many times
unfoldable again : ℕ → ℕ → ℕ → ℕ
again zero kind digest = digest
again (suc n) kind digest = again n kind (digest_with digest kind)

-- goes on once a number is known, so that the checker counts it before
force : {A : Type 0} → ℕ → (ℕ → A) → A
force zero next = next zero
force (suc n) next = next (suc n)

forced : {A : Type 0} (n : ℕ) (next : ℕ → A) → force n next ≡ next n
unfolding force
forced zero next = refl
forced (suc n) next = refl

unfoldable blocks : ℕ → ℕ → ℕ → ℕ
blocks zero kind digest = digest
blocks (suc n) kind digest = force digest (λ d. blocks n kind (again 256 kind d))

again-add : (m n kind digest : ℕ) → again (m + n) kind digest ≡ again n kind (again m kind digest)
unfolding again
again-add zero n kind digest = let same : zero + n ≡ n = omega arith in ap (λ k. again k kind digest) same
again-add (suc m) n kind digest =
    let more : suc m + n ≡ suc (m + n) = omega arith in
    ap (λ k. again k kind digest) more ∙ again-add m n kind (digest_with digest kind)

again-blocks : (n rest kind digest : ℕ) → again (n * 256 + rest) kind digest ≡ again rest kind (blocks n kind digest)
unfolding blocks
again-blocks zero rest kind digest = let same : zero * 256 + rest ≡ rest = omega arith in ap (λ k. again k kind digest) same
again-blocks (suc n) rest kind digest =
    let more : suc n * 256 + rest ≡ 256 + (n * 256 + rest) = omega arith in
    ap (λ k. again k kind digest) more ∙ again-add 256 (n * 256 + rest) kind digest ∙ again-blocks n rest kind (again 256 kind digest)
    ∙ ap (again rest kind) (sym (forced digest (λ d. blocks n kind (again 256 kind d))))

fold-again : (n kind digest : ℕ) → fold digest_with digest (replicate n kind) ≡ again n kind digest
unfolding again
fold-again zero kind digest = refl
fold-again (suc n) kind digest = fold-again n kind (digest_with digest kind)

-- the same in steps that the checker can count
abbrev after_run : ℕ → ℕ → ℕ → ℕ
after_run codes kind digest = again (codes % 256) kind (blocks (codes / 256) kind digest)

after-run : (codes kind digest : ℕ) → fold digest_with digest (replicate codes kind) ≡ after_run codes kind digest
after-run codes kind digest =
    let parts : codes ≡ codes / 256 * 256 + codes % 256 = omega arith in
    fold-again codes kind digest ∙ ap (λ k. again k kind digest) parts ∙ again-blocks (codes / 256) (codes % 256) kind digest

unfoldable after_runs : ℕ → Runs → ℕ
after_runs digest [] = digest
after_runs digest (run ∷ runs) = force digest (λ d. after_runs (after_run run.0 (kind_numbered run.1) d) runs)

fold-runs : (digest : ℕ) (runs : Runs) → fold digest_with digest (kinds_from runs) ≡ after_runs digest runs
unfolding kinds_from after_runs
fold-runs digest [] = refl
fold-runs digest (run ∷ runs) =
    fold-append digest_with digest (replicate run.0 (kind_numbered run.1)) (kinds_from runs)
    ∙ ap (λ d. fold digest_with d (kinds_from runs)) (after-run run.0 (kind_numbered run.1) digest)
    ∙ fold-runs (after_run run.0 (kind_numbered run.1) digest) runs
    ∙ sym (forced digest (λ d. after_runs (after_run run.0 (kind_numbered run.1) d) runs))

digest_ok : after_runs (digest_of_neighbours 0xcbf2_9ce4_8422_2325 UNICODE_NEIGHBOURS) UNICODE_RUNS ≡ UNICODE_DIGEST
unfolding after_runs again blocks force is kind_of digest_of_neighbours
digest_ok = refl

pub unicode-digest : fold digest_with (digest_of_neighbours 0xcbf2_9ce4_8422_2325 UNICODE_NEIGHBOURS) (kinds_of_cells unicode_cell) ≡ UNICODE_DIGEST
unicode-digest =
    let start = digest_of_neighbours 0xcbf2_9ce4_8422_2325 UNICODE_NEIGHBOURS in
    ap (fold digest_with start) (sym kinds-from) ∙ fold-runs start UNICODE_RUNS ∙ digest_ok
