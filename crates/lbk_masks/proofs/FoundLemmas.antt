-- What is found of 16 bytes more.
use Rattle.std.proofs.Common.{◌≡◌, ℕ, zero, suc, ◌+◌, ◌-◌, ◌<◌, ◌≤◌, ◌&&◌, ◌||◌, Bool, true, false, leb, ltb, List, length, min, get_or, take, drop, refl, sym, ap, ap₂, ◌∙◌, ⊎_elim, arith}
use Rattle.std.proofs.lemmas.Bool.{and_left, and_right, cases_lt, le-leb, le-ltb, lt-leb, lt-ltb}
use Rattle.std.proofs.lemmas.List.{get_or-drop, get_or_past, length-drop, take_all}
use Rattle.lbk_masks.specs.declared.found.Edges.{Edges}
use Rattle.lbk_masks.specs.declared.ByteSets.{ByteSets}
use Rattle.lbk_masks.specs.Found.{AreBits, AreEdges, AreFound}
use Rattle.lbk_masks.specs.Sets.{is_set, left_before, left_in}
use Rattle.lbk_masks.proofs.BitLemmas.{set-none}

-- what is so below a place may be said otherwise there
pub within : (i n : ℕ) (one other : Bool) → (i < n → one ≡ other) → (ltb i n && one) ≡ (ltb i n && other)
within i n one other same =
    ⊎_elim (λ (less : i < n). ap (λ b. ltb i n && b) (same less))
    (λ (least : n ≤ i). and_left (ltb i n) one (le-ltb i n least) ∙ sym (and_left (ltb i n) other (le-ltb i n least)))
    (cases_lt i n)

twice : (known is : Bool) → ((known && is) || is) ≡ is
twice true true = refl
twice true false = refl
twice false is = refl

once : (known is : Bool) → known ≡ true → ((known && is) || false) ≡ is
once true true k = refl
once true false k = refl
once false is k = absurd (let never : ⊥ = cc in never)

-- bits below a place, and 16 from one on that is not behind it
pub bits-joined : (known at i : ℕ) (is : ℕ → Bool) → at ≤ known → known ≤ at + 16
    → ((ltb i known && is i) || (leb at i && (ltb (i - at) 16 && is (at + (i - at))))) ≡ (ltb i (at + 16) && is i)
bits-joined known at i is begins reaches =
    let below = ltb i known && is i in
    let more = ltb (i - at) 16 && is (at + (i - at)) in
    ⊎_elim
    (λ (before : i < at).
    ap (λ b. below || b) (and_left (leb at i) more (lt-leb at i before))
    ∙ once (ltb i known) (is i) (lt-ltb i known (omega arith)) ∙ sym (ap (λ b. b && is i) (lt-ltb i (at + 16) (omega arith))))
    (λ (after : at ≤ i).
    ap (λ b. below || (b && more)) (le-leb at i after)
    ∙ ⊎_elim
    (λ (inside : i < at + 16).
    ap₂ (λ b n. below || (b && is n)) (lt-ltb (i - at) 16 (omega arith)) (let e : at + (i - at) ≡ i = omega arith in e)
    ∙ twice (ltb i known) (is i) ∙ sym (ap (λ b. b && is i) (lt-ltb i (at + 16) inside)))
    (λ (past : at + 16 ≤ i).
    ap₂ (λ b d. b || d) (and_left (ltb i known) (is i) (le-ltb i known (omega arith))) (and_left (ltb (i - at) 16) (is (at + (i - at))) (le-ltb (i - at) 16 (omega arith)))
    ∙ sym (and_left (ltb i (at + 16)) (is i) (le-ltb i (at + 16) past)))
    (cases_lt i (at + 16)))
    (cases_lt i at)

-- what is so below a place is so there
pub inside : (i n : ℕ) (is : Bool) → i < n → (ltb i n && is) ≡ is
inside i n is less = ap (λ b. b && is) (lt-ltb i n less)

-- byte i of what is left of a text
pub rest-byte : (text : List ℕ) (at i : ℕ) → get_or (take (length text - at) (drop at text)) i 0 ≡ get_or text (at + i) 0
rest-byte text at i = ap (λ l. get_or l i 0) (take_all (length text - at) (drop at text) (omega (arith, length-drop at text))) ∙ get_or-drop at text i 0

-- the left set of a byte that stands behind another
pub left-behind : (sets : ByteSets) (before : ℕ) (text : List ℕ) (place : ℕ) → 0 < place → left_before sets before text place ≡ left_in sets (get_or text (place - 1) 0)
left-behind sets before text zero some = absurd (omega arith)
left-behind sets before text (suc i) some = ap (λ n. left_in sets (get_or text n 0)) (let e : i ≡ suc i - 1 = omega arith in e)

-- before any byte is looked at
pub none-bits : (is : ℕ → Bool) → AreBits 0 is 0
none-bits is i few = set-none i ∙ sym (and_left (ltb i 0) (is i) (le-ltb i 0 (omega arith)))

pub none-edges : (text : List ℕ) → AreEdges text 0 (record { wide = 0; first = 0 })
none-edges text = record { wide = none-bits (λ i. leb 128 (get_or text i 0)); first = none-bits (λ i. leb 192 (get_or text i 0)) }

pub none-found : (sets : ByteSets) (before : ℕ) (text left : List ℕ) → AreFound sets before text 0 (record { standing = 0; special = 0; edges = record { wide = 0; first = 0 }; left = left })
none-found sets before text left = record { standing = none-bits _; special = none-bits _; edges = none-edges text }

-- behind the end of a text no byte is from 1 on
all-bits : (text : List ℕ) (least i known : ℕ) (bits : ℕ) → 0 < least → known ≡ min 64 (length text) → i < 64
    → is_set bits i ≡ (ltb i known && leb least (get_or text i 0)) → is_set bits i ≡ (ltb i 64 && leb least (get_or text i 0))
all-bits text least i known bits some ends few is =
    is
    ∙ ⊎_elim
    (λ (inside : i < length text). ap (λ b. b && leb least (get_or text i 0)) (lt-ltb i known (omega arith) ∙ sym (lt-ltb i 64 few)))
    (λ (past : length text ≤ i).
    let none : leb least (get_or text i 0) ≡ false = lt-leb least (get_or text i 0) (let e = get_or_past text i 0 past in omega arith) in
    and_right (ltb i known) (leb least (get_or text i 0)) none ∙ sym (and_right (ltb i 64) (leb least (get_or text i 0)) none))
    (cases_lt i (length text))

pub all-edges : (text : List ℕ) (edges : Edges) → AreEdges text (min 64 (length text)) edges → AreEdges text 64 edges
all-edges text edges are_edges = record {
  wide = λ i few. all-bits text 128 i (min 64 (length text)) edges.wide (omega arith) refl few (are_edges.wide i few);
  first = λ i few. all-bits text 192 i (min 64 (length text)) edges.first (omega arith) refl few (are_edges.first i few);
}
