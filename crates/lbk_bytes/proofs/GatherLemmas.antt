-- Kinds of verdicts that are gathered, and the bits that are made of them.
use Rattle.std.proofs.Common.{◌≡◌, ℕ, ◌+◌, ◌-◌, ◌/◌, ◌%◌, ◌==◌, ◌<◌, ◌≤◌, ◌&&◌, ◌||◌, Bool, true, false, not, List, [], ◌∷◌, ◌++◌, length, get_or, set, get_or-set_other, get_or-set_same, replicate, refl, sym, ap, ap₂, subst, ◌∙◌, ⊎_elim, arith}
use Rattle.std.specs.Int.Bits.{bit_or}
use Rattle.std.proofs.lemmas.Bool.{and_right, cases_eq, cases_lt, eq-eqb, ne_eqb}
use Rattle.std.proofs.lemmas.List.{append-nil, get_or_past, get_or-replicate, length-replicate}
use Rattle.lbk_masks.proofs.BitLemmas.{set-or}
use Rattle.lbk_masks.proofs.WordLemmas.{or-none}
use Rattle.lbk_masks.specs.Sets.{is_set}
use Rattle.lbk_rules.specs.declared.Cell.{Cell}
use Rattle.lbk_rules.specs.declared.neighbours.Neighbours.{Neighbours}
use Rattle.lbk_rules.specs.FlatTable.{IsFlatBy, KnowsTaken}
use Rattle.lbk_rules.specs.Rows.{IsPlace, IsShown}
use Rattle.lbk_rules.proofs.ShownLemmas.{shown-breaks}
use Rattle.lbk_values.specs.declared.profile.Profile.{Profile}
use Rattle.lbk_bytes.specs.declared.deciding.Decided.{Decided}
use Rattle.lbk_bytes.specs.declared.fill_state.FillState.{FillState}
use Rattle.lbk_bytes.specs.Decided.{IsDecided}
use Rattle.lbk_bytes.specs.Marking.{AreClear, AreGathered, Gathered, GathersFurther, Marked, MarksFurther}
use Rattle.lbk_bytes.specs.Marks.{breaks_at, is_marked}
use Rattle.lbk_bytes.specs.Reached.{Ahead}
use Rattle.lbk_bytes.proofs.MarkLemmas.{marked-past}
use Rattle.lbk_bytes.proofs.MarkStepLemmas.{Told-decided}
use Rattle.lbk_bytes.proofs.PieceLemmas.{piece-within}

-- One kind

-- of another byte nothing changes
pub kinds-other : (word : ℕ) (kinds : List ℕ) (index kind i : ℕ) → (i ≡ index → ⊥) → breaks_at word (set kinds index kind) i ≡ breaks_at word kinds i
kinds-other word kinds index kind i apart = ap (λ n. is_marked (word ∷ []) i || not (n == 0)) (get_or-set_other kinds index i kind 0 apart)

or-written : (marked some : Bool) → (marked || some) ≡ ((marked || false) || (some && true))
or-written true some = refl
or-written false true = refl
or-written false false = refl

-- where none stood
kinds-set : (word : ℕ) (kinds : List ℕ) (index kind i : ℕ) → index < length kinds → get_or kinds index 0 ≡ 0
    → breaks_at word (set kinds index kind) i ≡ (breaks_at word kinds i || (not (kind == 0) && (index == i)))
kinds-set word kinds index kind i within none =
    let some = not (kind == 0) in
    ⊎_elim
    (λ (same : i ≡ index).
    subst (λ k. breaks_at word (set kinds index kind) k ≡ (breaks_at word kinds k || (some && (index == k)))) (sym same)
    (ap (λ n. is_marked (word ∷ []) index || not (n == 0)) (get_or-set_same kinds index kind 0 within)
    ∙ or-written (is_marked (word ∷ []) index) some
    ∙ ap₂ (λ a b. (is_marked (word ∷ []) index || not (a == 0)) || (some && b)) (sym none) (sym (eq-eqb index index refl))))
    (λ (apart : i ≡ index → ⊥).
    kinds-other word kinds index kind i apart
    ∙ or-none (breaks_at word kinds i) (some && (index == i)) (and_right some (index == i) (ne_eqb index i (λ e. apart (sym e)))))
    (cases_eq i index)

-- what is decided before one scalar
pub Gathered-decided : (profile : Profile) (cell : ℕ → Cell) (text : List ℕ) (all : Ahead) (from last at row count word shown : ℕ) (kinds : List ℕ) (found : Decided)
    → from ≤ at → at < from + length kinds → at < length text → at < last → found.shown ≡ shown → IsShown shown
    → ((taken : List ℕ) → KnowsTaken cell row taken → IsDecided profile cell text at taken found)
    → Gathered profile cell text all from last word (record { count = count; row = row; at = at }) kinds
    → Gathered profile cell text all from last word (record { count = count; row = found.row; at = found.at }) (set kinds (at - from) (shown % 256))
Gathered-decided profile cell text all from last at row count word shown kinds found after room inside before same is decided g =
    let index = at - from in
    let new = set kinds index (shown % 256) in
    let moved = (decided g.told.reached.taken g.told.reached.knows).moved in
    let some = (piece-within text at inside).0 in
    record {
      none = λ i past. get_or-set_other kinds index i (shown % 256) 0 (λ e. omega (arith, moved, some)) ∙ g.none i (omega (arith, moved));
      told = Told-decided profile cell text all from last at row count count shown 64 (not (shown % 256 == 0)) (breaks_at word kinds) (breaks_at word new) found
          after inside before same (shown-breaks shown is.0 is.1)
          (λ i. kinds-set word kinds index (shown % 256) i (omega arith) (g.none index (omega arith))) decided g.told;
    }

-- where nothing follows the text
pub Gathered-alone : (profile : Profile) (cell : ℕ → Cell) (text : List ℕ) (all : Ahead) (from stop word : ℕ) (here there : FillState) (old new : List ℕ)
    → (Gathered profile cell (text ++ []) all from stop word here old → Gathered profile cell (text ++ []) all from stop word there new)
    → Gathered profile cell text all from stop word here old → Gathered profile cell text all from stop word there new
Gathered-alone profile cell text all from stop word here there old new further g =
    subst (λ t. Gathered profile cell t all from stop word there new) (append-nil text)
    (further (subst (λ t. Gathered profile cell t all from stop word here old) (sym (append-nil text)) g))

-- Before any, and behind all

-- no number is there yet
pub none-gathered : (word : ℕ) (kinds : List ℕ) (i : ℕ) → get_or kinds i 0 ≡ 0 → breaks_at word kinds i ≡ is_marked (word ∷ []) i
none-gathered word kinds i none =
    ap (λ n. is_marked (word ∷ []) i || not (n == 0)) none ∙ sym (or-none (is_marked (word ∷ []) i) false refl)

-- a bit of one word is one of its number
in-word : (word i : ℕ) → i < 64 → is_marked (word ∷ []) i ≡ is_set word i
in-word word i few =
    ap (λ q. is_set (get_or (word ∷ []) q 0) (i % 64)) (let e : i / 64 ≡ 0 = omega arith in e)
    ∙ ap (is_set word) (let e : i % 64 ≡ i = omega arith in e)

-- the bits of all of them
pub bits-made : (word bits : ℕ) (kinds : List ℕ) → ((i : ℕ) → i < 64 → is_set bits i ≡ not (get_or kinds i 0 == 0))
    → (i : ℕ) → i < 64 → is_marked (bit_or word bits ∷ []) i ≡ breaks_at word kinds i
bits-made word bits kinds are i few =
    in-word (bit_or word bits) i few ∙ set-or word bits i ∙ ap₂ ◌||◌ (sym (in-word word i few)) (are i few)

-- So far

-- what a call has gathered so far, from a word of bits on
pub record GatheredSoFar (of_codes : List ℕ) (of_bytes : Neighbours) (profile : Profile) (text : List ℕ) (from stop word : ℕ) (start here : FillState) (kinds : List ℕ) : Type 0 where
  pub row : IsPlace here.row
  pub onward : start.at ≤ here.at
  pub within : here.at ≤ length text
  pub near : here.at ≤ stop + 3
  pub room : length kinds ≡ 64
  pub none : AreClear from start.at (word ∷ []) → AreGathered from here.at word kinds
  pub gathered : (cell : ℕ → Cell) (all : Ahead) → IsFlatBy of_codes of_bytes cell
      → Marked profile cell text all from stop start (word ∷ [])
      → Gathered profile cell text all from stop word here kinds

-- numbers of 0
zeros : (n i : ℕ) → ◌≡◌ {A = ℕ} (get_or (replicate n 0) i 0) 0
zeros n i =
    ⊎_elim
    (λ (few : i < n). get_or-replicate n i 0 0 few)
    (λ (past : n ≤ i). get_or_past (replicate n 0) i 0 (omega (arith, length-replicate {A = ℕ} n 0)))
    (cases_lt i n)

pub gathered-none : (of_codes : List ℕ) (of_bytes : Neighbours) (profile : Profile) (text : List ℕ) (from stop word : ℕ) (start : FillState)
    → IsPlace start.row → start.at < stop → stop ≤ length text
    → GatheredSoFar of_codes of_bytes profile text from stop word start start (replicate 64 0)
gathered-none of_codes of_bytes profile text from stop word start row before within = record {
  row = row;
  onward = omega arith;
  within = omega arith;
  near = omega arith;
  room = length-replicate {A = ℕ} 64 0;
  none = λ clear i past. none-gathered word (replicate 64 0) i (zeros 64 i) ∙ clear i past;
  gathered = λ cell all flat m. record {
    none = λ i past. zeros 64 i;
    told = record {
      given = m.given;
      reached = m.reached;
      below = m.below;
      marked = λ i few. none-gathered word (replicate 64 0) i (zeros 64 i) ∙ m.marked i few;
      boundary = m.boundary;
    };
  };
}

pub gathered-further : (of_codes : List ℕ) (of_bytes : Neighbours) (profile : Profile) (text : List ℕ) (from stop word : ℕ) (start here there : FillState) (old new : List ℕ) → length new ≡ length old
    → GatheredSoFar of_codes of_bytes profile text from stop word start here old → GathersFurther of_codes of_bytes profile text from stop word old here new there
    → GatheredSoFar of_codes of_bytes profile text from stop word start there new
gathered-further of_codes of_bytes profile text from stop word start here there old new same so_far more = record {
  row = more.within.0;
  onward = omega (arith, so_far.onward, more.within.1);
  within = more.within.2;
  near = more.within.3;
  room = same ∙ so_far.room;
  none = λ clear. more.none (so_far.none clear);
  gathered = λ cell all flat begun. more.gathered cell all flat (so_far.gathered cell all flat begun);
}

-- the bits are made
pub gathered-all : (of_codes : List ℕ) (of_bytes : Neighbours) (profile : Profile) (text : List ℕ) (from stop word : ℕ) (start here : FillState) (kinds : List ℕ) (bits : ℕ)
    → GatheredSoFar of_codes of_bytes profile text from stop word start here kinds → start.at < stop → stop ≤ here.at
    → ((i : ℕ) → i < 64 → is_set bits i ≡ not (get_or kinds i 0 == 0))
    → MarksFurther of_codes of_bytes profile text from stop (word ∷ []) start (bit_or word bits ∷ []) here
gathered-all of_codes of_bytes profile text from stop word start here kinds bits so_far before past are =
    let made = bits-made word bits kinds are in
    record {
      within = (so_far.row, omega arith, so_far.within, so_far.near);
      none = λ clear i behind.
          ⊎_elim
          (λ (few : i < 64). made i few ∙ so_far.none clear i behind)
          (λ (many : 64 ≤ i). marked-past (bit_or word bits ∷ []) i (omega arith))
          (cases_lt i 64);
      marked = λ cell all flat m.
          let g = (so_far.gathered cell all flat m).told in
          record { given = g.given; reached = g.reached; below = g.below; marked = λ i few. made i few ∙ g.marked i few; boundary = g.boundary };
    }
