-- The tables of Unicode 15.0.0 tell the kinds and the flags of the runs' cells.
use Rattle.std.proofs.Common.{◌≡◌, ℕ, zero, suc, ◌+◌, ◌*◌, ◌%◌, ◌<◌, ◌≤◌, ◌&&◌, ◌==◌, Bool, true, false, cond, List, [], ◌∷◌, length, get_or, slice_index, map, nat_le, nat_lt, refl, sym, ap, ap₂, ◌∙◌, arith, eqb-true, le_of_suc-le-suc, le_refl, not-suc-le-zero}
use Rattle.std.proofs.Math.ListN.{get_or-map}
use Rattle.std.proofs.lemmas.Bool.{and_parts, cond-false, le-ltb}
use Rattle.std.specs.Int.{from_bool}
use Rattle.ucd_table.specs.Steps.{Step, step_value}
use Rattle.ucd_table.specs.Trie.{IsTrie, trie_value}
use Rattle.ucd_table.proofs.StepsLemmas.{skip, step_value-skip}
use Rattle.ucd_table.proofs.Stepped.{Stepped, map_stepped, runs_of, step_value-runs_of, zip_stepped}
use Rattle.ucd_table.proofs.TrieCheck.{trie_ok, trie_ok-IsTrie, trie_value-Stepped}
use Rattle.ucd_table.proofs.Computing.{tables}
use Rattle.lbk_uax14.specs.declared.cells.Cell.{Cell}
use Rattle.lbk_uax14.specs.Classes.{is}
use Rattle.lbk_rules.specs.declared.unicode_kinds.TheConstants.{FAR_INDEX, FAR_TAIL, FAR_WORDS, FLAG_INDEX, FLAG_TAIL, FLAG_WORDS, UNICODE_KINDS}
use Rattle.lbk_rules.specs.declared.unicode_runs.TheConstants.{UNICODE_CELLS, UNICODE_RUNS}
use Rattle.lbk_rules.specs.Kinds.{kind_cell, kind_of}
use Rattle.lbk_rules.specs.Unicode.{cell_numbered, ends_from, number_of, unicode_cell}
use Rattle.lbk_rules.proofs.UnicodeRuns.{kind_numbered}

abbrev number_stepped : Stepped number_of
unfolding number_of
number_stepped = record { default = 0; steps = ends_from 0 UNICODE_RUNS; gives = λ c. refl }

-- Kinds below U+10000

-- values in a row are those of steps, from a code on
unfoldable values_ok : List ℕ → ℕ → List (Step ℕ) → Bool
values_ok [] c ss = true
values_ok (v ∷ vs) c ss = let here = skip ss c in (v == step_value 0 here c) && values_ok vs (c + 1) here

values-at : (vs : List ℕ) (c : ℕ) (ss : List (Step ℕ)) (i : ℕ) → values_ok vs c ss ≡ true → i < length vs → slice_index vs i ≡ step_value 0 ss (c + i)
unfolding values_ok
values-at [] c ss i ok lt = absurd (not-suc-le-zero lt)
values-at (v ∷ vs) c ss zero ok lt =
    let parts = and_parts (v == step_value 0 (skip ss c) c) (values_ok vs (c + 1) (skip ss c)) ok in
    eqb-true _ _ parts.0 ∙ step_value-skip 0 ss c c (le_refl c) ∙ ap (step_value 0 ss) (omega arith)
values-at (v ∷ vs) c ss (suc i) ok lt =
    let parts = and_parts (v == step_value 0 (skip ss c) c) (values_ok vs (c + 1) (skip ss c)) ok in
    values-at vs (c + 1) (skip ss c) i parts.1 (le_of_suc-le-suc lt)
    ∙ step_value-skip 0 ss c (c + 1 + i) (omega arith)
    ∙ ap (step_value 0 ss) (omega arith)

abbrev kind_at : ℕ → ℕ
kind_at c = kind_numbered (number_of c)

abbrev kind_stepped : Stepped kind_at
kind_stepped = map_stepped kind_numbered number_of number_stepped

kinds_ok : values_ok UNICODE_KINDS 0 (runs_of kind_at kind_stepped) ≡ true
unfolding tables ends_from number_stepped is kind_of values_ok
kinds_ok = refl

pub many-kinds : length UNICODE_KINDS ≡ 0x1_0000
many-kinds = refl

pub near-kind : (code : ℕ) → code < 0x1_0000 → get_or UNICODE_KINDS code 0 ≡ kind_of (unicode_cell code)
unfolding unicode_cell
near-kind code near =
    values-at UNICODE_KINDS 0 (runs_of kind_at kind_stepped) code kinds_ok near
    ∙ ap (step_value 0 (runs_of kind_at kind_stepped)) (omega arith)
    ∙ step_value-runs_of kind_at kind_stepped code (omega arith)

-- Kinds from U+10000 on

abbrev is_near : ℕ → Bool
is_near c = nat_lt c 0x1_0000

one_or_other : (b : Bool) → b ≡ cond b true false
one_or_other true = refl
one_or_other false = refl

abbrev near_stepped : Stepped is_near
unfolding step_value
near_stepped = record { default = false; steps = (0x1_0000, true) ∷ []; gives = λ c. one_or_other (nat_lt c 0x1_0000) }

abbrev zero_if : Bool → ℕ → ℕ
zero_if near kind = cond near 0 kind

abbrev far_at : ℕ → ℕ
far_at c = zero_if (is_near c) (kind_at c)

abbrev far_stepped : Stepped far_at
far_stepped = zip_stepped zero_if is_near kind_at near_stepped kind_stepped

far_ok : trie_ok 8 8 64 FAR_INDEX FAR_WORDS FAR_TAIL (runs_of far_at far_stepped) ≡ true
unfolding tables ends_from number_stepped is kind_of
far_ok = refl

pub far-trie : IsTrie 8 8 FAR_INDEX FAR_WORDS
far-trie = trie_ok-IsTrie 8 8 64 FAR_INDEX FAR_WORDS FAR_TAIL _ far_ok

pub far-kind : (code : ℕ) → 0x1_0000 ≤ code → code < 0x11_0000 → trie_value 8 8 FAR_INDEX FAR_WORDS FAR_TAIL code ≡ kind_of (unicode_cell code)
unfolding unicode_cell
far-kind code far below =
    trie_value-Stepped 8 8 64 FAR_INDEX FAR_WORDS FAR_TAIL far_at far_stepped far_ok code below
    ∙ cond-false (is_near code) 0 (kind_at code) (le-ltb code 0x1_0000 far)

-- Flags

abbrev flags_of : Cell → ℕ
flags_of cell = from_bool cell.wide + 2 * from_bool cell.letter

abbrev flags_numbered : ℕ → ℕ
flags_numbered number = flags_of (cell_numbered number)

abbrev flags_at : ℕ → ℕ
flags_at c = flags_numbered (number_of c)

abbrev flags_stepped : Stepped flags_at
flags_stepped = map_stepped flags_numbered number_of number_stepped

flags_ok : trie_ok 2 4 4 FLAG_INDEX FLAG_WORDS FLAG_TAIL (runs_of flags_at flags_stepped) ≡ true
unfolding tables ends_from number_stepped
flags_ok = refl

pub flags-trie : IsTrie 2 4 FLAG_INDEX FLAG_WORDS
flags-trie = trie_ok-IsTrie 2 4 4 FLAG_INDEX FLAG_WORDS FLAG_TAIL _ flags_ok

pub flags-at : (code : ℕ) → code < 0x11_0000 → trie_value 2 4 FLAG_INDEX FLAG_WORDS FLAG_TAIL code ≡ flags_of (unicode_cell code)
unfolding unicode_cell
flags-at code below = trie_value-Stepped 2 4 4 FLAG_INDEX FLAG_WORDS FLAG_TAIL flags_at flags_stepped flags_ok code below

pub flag-wide : (wide letter : Bool) → ((from_bool wide + 2 * from_bool letter) % 2 == 1) ≡ wide
flag-wide true true = refl
flag-wide true false = refl
flag-wide false true = refl
flag-wide false false = refl

pub flag-letter : (wide letter : Bool) → nat_le 2 (from_bool wide + 2 * from_bool letter) ≡ letter
flag-letter true true = refl
flag-letter true false = refl
flag-letter false true = refl
flag-letter false false = refl

-- A kind and the flags tell the cell

abbrev pub rebuilt : Cell → Cell
rebuilt cell = record (kind_cell (kind_of cell)) { wide = cell.wide; letter = cell.letter }

cells_rebuilt : map rebuilt UNICODE_CELLS ≡ UNICODE_CELLS
unfolding kind_cell kind_of is
cells_rebuilt = refl

default_rebuilt : rebuilt (cell_numbered 65) ≡ cell_numbered 65
unfolding kind_cell kind_of is
default_rebuilt = refl

pub cell-rebuilt : (code : ℕ) → rebuilt (unicode_cell code) ≡ unicode_cell code
unfolding unicode_cell
cell-rebuilt code =
    let number = number_of code in
    sym (get_or-map rebuilt UNICODE_CELLS number (cell_numbered 65))
    ∙ ap₂ (λ cells none. get_or cells number none) cells_rebuilt default_rebuilt
