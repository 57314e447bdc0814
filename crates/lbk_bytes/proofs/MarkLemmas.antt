-- Bits that are set for breaks.
use Rattle.std.proofs.Common.{◌≡◌, ℕ, zero, suc, ◌+◌, ◌-◌, ◌*◌, ◌/◌, ◌%◌, ◌^◌, ◌==◌, ◌<◌, ◌≤◌, ◌&&◌, ◌||◌, Bool, true, false, cond, not, List, [], ◌∷◌, ◌++◌, length, take, drop, get_or, set, append_assoc, get_or-set_other, get_or-set_same, refl, sym, ap, ap₂, subst, ◌∙◌, ⊎_elim, arith}
use Rattle.std.specs.Int.{from_bool}
use Rattle.std.specs.Int.Bits.{bit_or}
use Rattle.std.proofs.lemmas.Bool.{and_right, cases_eq, eq-eqb, ne_eqb}
use Rattle.std.proofs.lemmas.List.{append-nil, get_or_past, length-take-le, take-append-drop}
use Rattle.std.proofs.lemmas.Nat.{one_shl}
use Rattle.std.proofs.lemmas.Nat.Bits.{bit_at-pow_other, bit_at-pow_same}
use Rattle.bstr.specs.Utf8.{pieces}
use Rattle.lbk_masks.proofs.BitLemmas.{set-or}
use Rattle.lbk_masks.specs.Sets.{is_set}
use Rattle.lbk_rules.specs.declared.Break.{Break}
use Rattle.lbk_rules.specs.declared.Cell.{Cell}
use Rattle.lbk_rules.specs.declared.Verdict.{Verdict}
use Rattle.lbk_rules.specs.declared.steps.Step.{Step}
use Rattle.lbk_rules.specs.declared.neighbours.Neighbours.{Neighbours}
use Rattle.lbk_rules.specs.Breaks.{break_by, is_no}
use Rattle.lbk_rules.specs.FlatTable.{IsFlatBy}
use Rattle.lbk_rules.specs.Rows.{IsPlace, steps_in}
use Rattle.lbk_values.specs.declared.profile.Profile.{Profile}
use Rattle.lbk_bytes.specs.declared.fill_state.FillState.{FillState}
use Rattle.lbk_bytes.specs.declared.one_word.OneWord.{OneWord}
use Rattle.lbk_bytes.specs.Bytes.{with_break}
use Rattle.lbk_bytes.specs.Marking.{AreBelow, AreClear, Marked, MarksFurther, MarksOn, Told, uncounted}
use Rattle.lbk_bytes.specs.Marks.{boundary_from, is_marked, stands_among}
use Rattle.lbk_bytes.specs.Reached.{Ahead, Reached, onward_to}
use Rattle.lbk_bytes.specs.Steps.{StepsOn}
use Rattle.lbk_masks.proofs.BitLemmas.{set-none}
use Rattle.lbk_masks.proofs.WordLemmas.{or-none}

-- A bit

pub or-assoc : (x y z : Bool) → ((x || y) || z) ≡ (x || (y || z))
or-assoc true y z = refl
or-assoc false y z = refl

-- one bit, if it is to be set
pub set-one : (s : Bool) (k j : ℕ) → k < 64 → is_set (from_bool s * 2 ^ k % 2 ^ 64) j ≡ (s && (k == j))
set-one false k j few = ap (λ n. is_set n j) (let e : 0 * 2 ^ k % 2 ^ 64 ≡ 0 = omega arith in e) ∙ set-none j
set-one true k j few =
    ap (λ n. is_set n j) (one_shl k 64 few)
    ∙ ⊎_elim
    (λ (same : k ≡ j). ap (λ n. is_set (2 ^ k) n) (sym same) ∙ ap (λ n. n == 1) (bit_at-pow_same k) ∙ sym (eq-eqb k j same))
    (λ (apart : k ≡ j → ⊥). ap (λ n. n == 1) (bit_at-pow_other k j (λ e. apart (sym e))) ∙ sym (ne_eqb k j apart))
    (cases_eq k j)

same-bit : (i index : ℕ) → i / 64 ≡ index / 64 → (index % 64 == i % 64) ≡ (index == i)
same-bit i index same =
    ⊎_elim
    (λ (equal : index ≡ i). eq-eqb (index % 64) (i % 64) (ap (λ n. n % 64) equal) ∙ sym (eq-eqb index i equal))
    (λ (apart : index ≡ i → ⊥). ne_eqb (index % 64) (i % 64) (λ e. apart (omega arith)) ∙ sym (ne_eqb index i apart))
    (cases_eq index i)

-- a bit of the words more
pub marked-one : (words : List ℕ) (index i : ℕ) (s : Bool) → index < 64 * length words
    → is_marked (set words (index / 64) (bit_or (get_or words (index / 64) 0) (from_bool s * 2 ^ (index % 64) % 2 ^ 64))) i ≡ (is_marked words i || (s && (index == i)))
marked-one words index i s within =
    let bit = from_bool s * 2 ^ (index % 64) % 2 ^ 64 in
    let word = bit_or (get_or words (index / 64) 0) bit in
    ⊎_elim
    (λ (same : i / 64 ≡ index / 64).
    ap (λ q. is_set (get_or (set words (index / 64) word) q 0) (i % 64)) same
    ∙ ap (λ n. is_set n (i % 64)) (get_or-set_same words (index / 64) word 0 (omega arith))
    ∙ set-or (get_or words (index / 64) 0) bit (i % 64)
    ∙ ap₂ ◌||◌ (ap (λ q. is_set (get_or words q 0) (i % 64)) (sym same))
    (set-one s (index % 64) (i % 64) (omega arith) ∙ ap (λ e. s && e) (same-bit i index same)))
    (λ (apart : i / 64 ≡ index / 64 → ⊥).
    ap (λ n. is_set n (i % 64)) (get_or-set_other words (index / 64) (i / 64) word 0 apart)
    ∙ or-none (is_marked words i) (s && (index == i)) (and_right s (index == i) (ne_eqb index i (λ e. apart (ap (λ n. n / 64) (sym e))))))
    (cases_eq (i / 64) (index / 64))

-- behind the last word no bit is set
pub marked-past : (words : List ℕ) (i : ℕ) → 64 * length words ≤ i → is_marked words i ≡ false
marked-past words i past = ap (λ n. is_set n (i % 64)) (get_or_past words (i / 64) 0 (omega arith)) ∙ set-none (i % 64)

-- Breaks

pub among-append : (place : ℕ) (xs ys : List Break) → stands_among place (xs ++ ys) ≡ (stands_among place xs || stands_among place ys)
among-append place [] ys = refl
among-append place (b ∷ bs) ys =
    ap (λ s. (b.at == place) || s) (among-append place bs ys) ∙ sym (or-assoc (b.at == place) (stands_among place bs) (stands_among place ys))

pub below-none : (stop place : ℕ) (bs : List Break) → AreBelow stop bs → stop ≤ place → stands_among place bs ≡ false
below-none stop place [] below past = refl
below-none stop place (b ∷ bs) below past =
    let first = below.0 in
    ap₂ ◌||◌ (ne_eqb b.at place (λ e. omega arith)) (below-none stop place bs below.1 past)

pub below-append : (stop : ℕ) (xs ys : List Break) → AreBelow stop xs → AreBelow stop ys → AreBelow stop (xs ++ ys)
below-append stop [] ys below also = also
below-append stop (b ∷ bs) ys below also = (below.0, below-append stop bs ys below.1 also)

pub below-wider : (stop further : ℕ) (bs : List Break) → stop ≤ further → AreBelow stop bs → AreBelow further bs
below-wider stop further [] wider below = tt
below-wider stop further (b ∷ bs) wider below = (let first = below.0 in omega arith, below-wider stop further bs wider below.1)

-- Further

-- what comes from a state on is what is left of all
later : (profile : Profile) (cell : ℕ → Cell) (text : List ℕ) (all : Ahead) (here : FillState) (given : List Break)
    → (r : Reached profile cell text all here given)
    → Reached profile cell text (record { breaks = onward_to all.end profile cell r.taken here.at (pieces (drop here.at text)); end = all.end }) here []
later profile cell text all here given r = record { taken = r.taken; knows = r.knows; some = r.some; joined = refl }

-- some breaks more
pub record Adds (profile : Profile) (cell : ℕ → Cell) (text : List ℕ) (all : Ahead) (from stop : ℕ) (here there : FillState) (size : ℕ) (old new : ℕ → Bool) : Type 0 where
  pub given : List Break
  pub reached : Reached profile cell text all (uncounted there) given
  pub below : AreBelow stop given
  pub marked : (i : ℕ) → i < size → new i ≡ (old i || stands_among (from + i) given)
  pub boundary : boundary_from text there.at stop ≡ boundary_from text here.at stop

pub Told-more : (profile : Profile) (cell : ℕ → Cell) (text : List ℕ) (all : Ahead) (from stop : ℕ) (here there : FillState) (size : ℕ) (old new : ℕ → Bool)
    → ((rest : Ahead) → Reached profile cell text rest (uncounted here) [] → Adds profile cell text rest from stop here there size old new)
    → Told profile cell text all from stop here size old → Told profile cell text all from stop there size new
Told-more profile cell text all from stop here there size old new adds m =
    let r = m.reached in
    let rest : Ahead = record { breaks = onward_to all.end profile cell r.taken here.at (pieces (drop here.at text)); end = all.end } in
    let more = adds rest (later profile cell text all (uncounted here) m.given r) in
    let after = onward_to all.end profile cell more.reached.taken there.at (pieces (drop there.at text)) in
    record {
      given = m.given ++ more.given;
      reached = record {
        taken = more.reached.taken;
        knows = more.reached.knows;
        some = more.reached.some;
        joined = r.joined ∙ ap (λ l. m.given ++ l) more.reached.joined ∙ sym (append_assoc m.given more.given after);
      };
      below = below-append stop m.given more.given m.below more.below;
      marked = λ i h.
          more.marked i h
          ∙ ap (λ s. s || stands_among (from + i) more.given) (m.marked i h)
          ∙ sym (among-append (from + i) m.given more.given);
      boundary = more.boundary ∙ m.boundary;
    }

pub Marked-more : (profile : Profile) (cell : ℕ → Cell) (text : List ℕ) (all : Ahead) (from stop : ℕ) (here there : FillState) (old new : List ℕ)
    → length new ≡ length old
    → ((rest : Ahead) → Reached profile cell text rest (uncounted here) [] → Adds profile cell text rest from stop here there (64 * length old) (is_marked old) (is_marked new))
    → Marked profile cell text all from stop here old → Marked profile cell text all from stop there new
Marked-more profile cell text all from stop here there old new same adds m =
    subst (λ n. Told profile cell text all from stop there (64 * n) (is_marked new)) (sym same)
    (Told-more profile cell text all from stop here there (64 * length old) (is_marked old) (is_marked new) adds m)

-- The ways of going on

pub or-false : (x y : Bool) → y ≡ false → (x || y) ≡ x
or-false x y none = sym (or-none x y none)

from-or : (from at i : ℕ) → from ≤ at → (at - from == i) ≡ (at == from + i)
from-or from at i after =
    ⊎_elim
    (λ (same : at ≡ from + i). eq-eqb (at - from) i (omega arith) ∙ sym (eq-eqb at (from + i) same))
    (λ (apart : at ≡ from + i → ⊥). ne_eqb (at - from) i (λ e. apart (omega arith)) ∙ sym (ne_eqb at (from + i) apart))
    (cases_eq at (from + i))

-- what is decided before one scalar
pub break-among : (b : Bool) (from at i : ℕ) (verdict : Verdict) → b ≡ not (is_no verdict.kind) → from ≤ at
    → (b && (at - from == i)) ≡ stands_among (from + i) (with_break at verdict [])
break-among b from at i verdict is after =
    ap (λ c. c && (at - from == i)) is
    ∙ elim (is_no verdict.kind)
    as (λ no. (not no && (at - from == i)) ≡ stands_among (from + i) (cond no [] (break_by at verdict ∷ [])))
    [ true ↦ refl | false ↦ from-or from at i after ∙ or-none (at == from + i) false refl ]

pub break-below : (stop at : ℕ) (verdict : Verdict) → at < stop → AreBelow stop (with_break at verdict [])
break-below stop at verdict below =
    elim (is_no verdict.kind) as (λ no. AreBelow stop (cond no [] (break_by at verdict ∷ []))) [ true ↦ tt | false ↦ (below, tt) ]

-- what is done with the front of a text is done with the text
pub Marked-by-front : (profile : Profile) (cell : ℕ → Cell) (text : List ℕ) (all : Ahead) (from stop : ℕ) (here there : FillState) (old new : List ℕ) → stop ≤ length text
    → (Marked profile cell (take stop text ++ drop stop text) all from (length (take stop text)) here old
    → Marked profile cell (take stop text ++ drop stop text) all from (length (take stop text)) there new)
    → Marked profile cell text all from stop here old → Marked profile cell text all from stop there new
Marked-by-front profile cell text all from stop here there old new within further m =
    let ends = length-take-le stop text within in
    let whole = take-append-drop stop text in
    subst (λ t. Marked profile cell t all from stop there new) whole
    (subst (λ n. Marked profile cell (take stop text ++ drop stop text) all from n there new) ends
    (further
    (subst (λ n. Marked profile cell (take stop text ++ drop stop text) all from n here old) (sym ends)
    (subst (λ t. Marked profile cell t all from stop here old) (sym whole) m))))

-- where nothing follows it
pub Marked-alone : (profile : Profile) (cell : ℕ → Cell) (text : List ℕ) (all : Ahead) (from stop : ℕ) (here there : FillState) (old new : List ℕ)
    → (Marked profile cell (text ++ []) all from stop here old → Marked profile cell (text ++ []) all from stop there new)
    → Marked profile cell text all from stop here old → Marked profile cell text all from stop there new
Marked-alone profile cell text all from stop here there old new further m =
    subst (λ t. Marked profile cell t all from stop there new) (append-nil text)
    (further (subst (λ t. Marked profile cell t all from stop here old) (sym (append-nil text)) m))

-- one part by the front of a text, and then one where nothing follows it
pub Marked-by-both : (profile : Profile) (cell : ℕ → Cell) (text : List ℕ) (all : Ahead) (from stop : ℕ) (here there past : FillState) (old mid new : List ℕ) → stop ≤ length text
    → (Marked profile cell (take stop text ++ drop stop text) all from (length (take stop text)) here old
    → Marked profile cell (take stop text ++ drop stop text) all from (length (take stop text)) there mid)
    → (Marked profile cell (text ++ []) all from stop there mid → Marked profile cell (text ++ []) all from stop past new)
    → Marked profile cell text all from stop here old → Marked profile cell text all from stop past new
Marked-by-both profile cell text all from stop here there past old mid new within first second m =
    Marked-alone profile cell text all from stop there past mid new second (Marked-by-front profile cell text all from stop here there old mid within first m)

-- where nothing was given yet
pub Marked-none : (profile : Profile) (cell : ℕ → Cell) (text : List ℕ) (all : Ahead) (stop : ℕ) (here : FillState) (words : List ℕ)
    → ((i : ℕ) → is_marked words i ≡ false) → Reached profile cell text all (uncounted here) []
    → Marked profile cell text all here.at stop here words
Marked-none profile cell text all stop here words none r = record { given = []; reached = r; below = tt; marked = λ i h. none i; boundary = refl }

-- where nothing was given before the front
pub Marked-begun : (profile : Profile) (cell : ℕ → Cell) (text : List ℕ) (all : Ahead) (from stop : ℕ) (here there : FillState) (new : List ℕ) → stop ≤ length text
    → (Reached profile cell (take stop text ++ drop stop text) all here []
    → Marked profile cell (take stop text ++ drop stop text) all from (length (take stop text)) there new)
    → Reached profile cell text all here [] → Marked profile cell text all from stop there new
Marked-begun profile cell text all from stop here there new within further r =
    let whole = take-append-drop stop text in
    subst (λ t. Marked profile cell t all from stop there new) whole
    (subst (λ n. Marked profile cell (take stop text ++ drop stop text) all from n there new) (length-take-le stop text within)
    (further (subst (λ t. Reached profile cell t all here []) (sym whole) r)))

-- One word

-- it is all of the words
as-one : (words : List ℕ) → length words ≡ 1 → words ≡ get_or words 0 0 ∷ []
as-one [] one = absurd (omega arith)
as-one (word ∷ []) one = refl
as-one (word ∷ more ∷ words) one = absurd (omega arith)

-- and another in its place
pub as-other : (words : List ℕ) (word : ℕ) → length words ≡ 1 → word ∷ [] ≡ set words 0 word
as-other [] word one = absurd (omega arith)
as-other (old ∷ []) word one = refl
as-other (old ∷ more ∷ words) word one = absurd (omega arith)

-- The bits so far

-- the bits that a call has set so far
pub record MarksSoFar (kinds : List ℕ) (pairs : Neighbours) (profile : Profile) (text : List ℕ) (stop : ℕ) (start here : FillState) (words : List ℕ) : Type 0 where
  pub row : IsPlace here.row
  pub onward : start.at ≤ here.at
  pub within : here.at ≤ length text
  pub near : here.at ≤ stop + 3
  pub none : AreClear start.at here.at words
  pub marked : (cell : ℕ → Cell) (all : Ahead) → IsFlatBy kinds pairs cell
      → Reached profile cell text all (uncounted start) []
      → Marked profile cell text all start.at stop here words

pub marks-further : (kinds : List ℕ) (pairs : Neighbours) (profile : Profile) (text : List ℕ) (stop : ℕ) (start here there : FillState) (old new : List ℕ)
    → MarksSoFar kinds pairs profile text stop start here old → MarksFurther kinds pairs profile text start.at stop old here new there
    → MarksSoFar kinds pairs profile text stop start there new
marks-further kinds pairs profile text stop start here there old new so_far more = record {
  row = more.within.0;
  onward = omega (arith, so_far.onward, more.within.1);
  within = more.within.2;
  near = more.within.3;
  none = more.none so_far.none;
  marked = λ cell all flat begun. more.marked cell all flat (so_far.marked cell all flat begun);
}

-- no bit of a word of 0 is set
zero-there : (k : ℕ) → ◌≡◌ {A = ℕ} (get_or (0 ∷ []) k 0) 0
zero-there zero = refl
zero-there (suc k) = refl

zero-clear : (i : ℕ) → is_marked (0 ∷ []) i ≡ false
zero-clear i = ap (λ n. is_set n (i % 64)) (zero-there (i / 64)) ∙ set-none (i % 64)

-- one word, before anything was taken, and behind a block
pub word-none : (kinds : List ℕ) (pairs : Neighbours) (profile : Profile) (text : List ℕ) (stop : ℕ) (start : FillState) → IsPlace start.row → start.at ≤ stop → stop ≤ length text
    → MarksSoFar kinds pairs profile text stop start start (0 ∷ [])
word-none kinds pairs profile text stop start row before within = record {
  row = row;
  onward = omega arith;
  within = omega arith;
  near = omega arith;
  none = λ i _. zero-clear i;
  marked = λ cell all flat r. Marked-none profile cell text all stop start (0 ∷ []) zero-clear r;
}

pub words-begun : (kinds : List ℕ) (pairs : Neighbours) (profile : Profile) (steps : List (List Step)) (text : List ℕ) (stop : ℕ) (start there : FillState) (new : List ℕ) → stop ≤ length text
    → steps ≡ steps_in profile → MarksOn kinds pairs steps (take stop text) start.at (0 ∷ []) start new there
    → MarksSoFar kinds pairs profile text stop start there new
words-begun kinds pairs profile steps text stop start there new within swift m =
    let front = take stop text in
    let ends = length-take-le stop text within in
    record {
      row = m.within.0;
      onward = m.within.1;
      within = omega (arith, ends, m.within.2);
      near = omega (arith, ends, m.within.2);
      none = m.none (λ i _. zero-clear i);
      marked = λ cell all flat.
          Marked-begun profile cell text all start.at stop (uncounted start) there new within
          (λ r. m.marked profile cell (drop stop text) all swift flat (Marked-none profile cell (front ++ drop stop text) all (length front) start (0 ∷ []) zero-clear r));
    }

-- steps taken behind it, whatever may follow the text
pub words-stepped : (kinds : List ℕ) (pairs : Neighbours) (profile : Profile) (steps : List (List Step)) (text : List ℕ) (stop : ℕ) (start here there : FillState) (old new : List ℕ)
    → here.at ≤ stop → steps ≡ steps_in profile
    → MarksSoFar kinds pairs profile text stop start here old
    → StepsOn (λ words count at stop. (start.at ≤ at) × (stop ≤ start.at + 64 * length words)) (λ words count from at. AreClear start.at at words)
    (λ profile cell text all last here words. Marked profile cell text all start.at last here words) steps kinds text stop old here new there
    → MarksSoFar kinds pairs profile text stop start there new
words-stepped kinds pairs profile steps text stop start here there old new before swift so_far more = record {
  row = more.within.1;
  onward = omega (arith, so_far.onward, more.onward.0);
  within = more.within.2;
  near = more.near before;
  none = more.in_order 0 so_far.none;
  marked = λ cell all flat r.
      Marked-alone profile cell text all start.at stop here there old new (more.reached profile cell [] all stop swift flat.kinds (omega arith)) (so_far.marked cell all flat r);
}

-- its bits with how far the call got
pub word-with : (kinds : List ℕ) (pairs : Neighbours) (profile : Profile) (text : List ℕ) (stop : ℕ) (start here : FillState) (there : OneWord) (words : List ℕ) → length words ≡ 1
    → there ≡ record { word = get_or words 0 0; here = here } → MarksSoFar kinds pairs profile text stop start here words
    → MarksSoFar kinds pairs profile text stop start there.here (there.word ∷ [])
word-with kinds pairs profile text stop start here there words one is so_far =
    subst (λ s. MarksSoFar kinds pairs profile text stop start s.here (s.word ∷ [])) (sym is)
    (subst (λ l. MarksSoFar kinds pairs profile text stop start here l) (as-one words one) so_far)
