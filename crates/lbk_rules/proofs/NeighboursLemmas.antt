-- The neighbours tell what the steps tell.
use Rattle.std.proofs.Common.{◌≡◌, ◌⊎◌, ℕ, zero, suc, ◌+◌, ◌-◌, ◌*◌, ◌/◌, ◌%◌, ◌<◌, ◌≤◌, ◌==◌, ◌&&◌, ◌||◌, Bool, true, false, cond, not, leb, ltb, List, [], get_or, bit_and, inl, inr, refl, sym, ap, ap₂, subst, ◌∙◌, ⊎_elim, arith, eqb-true, lit<}
use Rattle.std.proofs.lemmas.Bool.{and_from, and_parts, cases_lt, cond-false, cond-true, eq-eqb, false≢true, leb-true, lt-ltb, ltb-true}
use Rattle.std.proofs.lemmas.Bool.Decides.{nat_tests}
use Rattle.std.proofs.lemmas.List.{get_or_past}
use Rattle.lbk_rules.specs.Letters.{StandsForAll}
use Rattle.lbk_masks.specs.Sets.{class_in, left_in, meets, picked, right_in}
use Rattle.lbk_uax14.specs.Breaks.{is_no}
use Rattle.lbk_values.specs.declared.profile.Profile.{Profile}
use Rattle.lbk_values.specs.declared.profile.Profile.TheVariants.{First, Second}
use Rattle.lbk_rules.specs.declared.neighbours.Neighbours.{Neighbours}
use Rattle.lbk_rules.specs.declared.neighbours.TheConstants.{CLASS_OF_KIND, LEFT, RIGHT}
use Rattle.lbk_rules.specs.declared.steps.TheConstants.{HELD}
use Rattle.lbk_rules.specs.Neighbours.{AreNeighboursOf, AreSettled, AreTold, are_letters, begins_letters, class_of_byte, class_of_kind, is_special, row_of_byte, row_of_kind, step_behind}
use Rattle.lbk_rules.specs.Rows.{IsPlace, step_by, steps_in, verdict_shown}
use Rattle.lbk_rules.proofs.FlatLemmas.{place-same}
use Rattle.lbk_rules.proofs.RowChecks.{each_below}
use Rattle.lbk_rules.proofs.RowLemmas.{each_below-at}

-- What holds of all bytes and of all kinds, by trying them

low_half : ℕ → Bool
low_half byte = bit_and byte 15 == byte % 16

high_bit : ℕ → Bool
high_bit byte = cond (bit_and byte 128 == 0) (ltb byte 128) (leb 128 byte)

halves : each_below low_half 256 ≡ true
unfolding each_below low_half
halves = refl

bits : each_below high_bit 256 ≡ true
unfolding each_below high_bit
bits = refl

low-half : (byte : ℕ) → byte < 256 → bit_and byte 15 ≡ byte % 16
unfolding low_half
low-half byte few = eqb-true _ _ (each_below-at low_half 256 byte halves few)

few_class : ℕ → Bool
few_class kind = ltb (class_of_kind kind) 16

few_classes : each_below few_class 84 ≡ true
unfolding each_below few_class
few_classes = refl

pub class-few : (kind : ℕ) → kind < 84 → class_of_kind kind < 16
unfolding few_class
class-few kind few = ltb-true _ 16 (each_below-at few_class 84 kind few_classes few)

-- no number beyond them has another class than the rare kinds
pub class-past : (kind : ℕ) → 84 ≤ kind → class_of_kind kind ≡ 0
class-past kind past = get_or_past CLASS_OF_KIND kind 0 past

-- two kinds side by side: the first is asked for, the second is special behind it, or the sets tell what the step does
told_pair : Profile → ℕ → ℕ → Bool
told_pair profile before kind =
    let left = get_or LEFT (class_of_kind before) 0 in
    let right = get_or RIGHT (class_of_kind kind) 0 in
    let step = step_by (steps_in profile) (row_of_kind before) kind in
    (class_of_kind before == 0)
    || (meets left (bit_and right 3)
    || (not (step.shown == HELD) && ((step.next == row_of_kind kind) && (cond (meets left right) (not (is_no (verdict_shown step.shown).kind)) (is_no (verdict_shown step.shown).kind)))))

told_behind : Profile → ℕ → Bool
told_behind profile before = each_below (told_pair profile before) 84

first_told : each_below (told_behind First) 84 ≡ true
unfolding each_below told_behind told_pair verdict_shown
first_told = refl

second_told : each_below (told_behind Second) 84 ≡ true
unfolding each_below told_behind told_pair verdict_shown
second_told = refl

pair-told : (profile : Profile) (before kind : ℕ) → before < 84 → kind < 84 → told_pair profile before kind ≡ true
unfolding told_behind
pair-told First before kind low few = each_below-at (told_pair First before) 84 kind (each_below-at (told_behind First) 84 before first_told low) few
pair-told Second before kind low few = each_below-at (told_pair Second before) 84 kind (each_below-at (told_behind Second) 84 before second_told low) few

-- a class that is asked for is special behind each other that is known
odd_left : ℕ → Bool
odd_left kind = (class_of_kind kind == 0) || meets (get_or LEFT (class_of_kind kind) 0) (bit_and (get_or RIGHT 0 0) 3)

odd_lefts : each_below odd_left 84 ≡ true
unfolding each_below odd_left
odd_lefts = refl

or-right : (a b : Bool) → (a || b) ≡ true → a ≡ false → b ≡ true
or-right true b is none = absurd (false≢true (sym none))
or-right false b is none = is

left-odd : (kind : ℕ) → kind < 84 → (class_of_kind kind == 0) ≡ false → meets (get_or LEFT (class_of_kind kind) 0) (bit_and (get_or RIGHT 0 0) 3) ≡ true
unfolding odd_left
left-odd kind few some = or-right _ _ (each_below-at odd_left 84 kind odd_lefts few) some

-- The classes of bytes

class-low : (kinds : List ℕ) (byte : ℕ) → byte < 128 → class_of_byte kinds byte ≡ class_of_kind (get_or kinds byte 0)
class-low kinds byte low = cond-true (ltb byte 128) _ _ (lt-ltb byte 128 low)

class-continuing : (kinds : List ℕ) (byte : ℕ) → 128 ≤ byte → byte < 192 → class_of_byte kinds byte ≡ 1
class-continuing kinds byte least below =
    let past : ltb byte 128 ≡ false = grind (arith, nat_tests) in
    cond-false (ltb byte 128) _ _ past ∙ cond-true (ltb byte 192) _ _ (lt-ltb byte 192 below)

class-high : (kinds : List ℕ) (byte : ℕ) → 192 ≤ byte → class_of_byte kinds byte ≡ cond (begins_letters kinds byte) (class_of_kind 0) 0
class-high kinds byte high =
    let past : ltb byte 128 ≡ false = grind (arith, nat_tests) in
    let further : ltb byte 192 ≡ false = grind (arith, nat_tests) in
    cond-false (ltb byte 128) _ _ past ∙ cond-false (ltb byte 192) _ _ further

row-low : (kinds : List ℕ) (byte : ℕ) → byte < 128 → row_of_byte kinds byte ≡ row_of_kind (get_or kinds byte 0)
row-low kinds byte low = ap row_of_kind (cond-true (ltb byte 128) (get_or kinds byte 0) 0 (lt-ltb byte 128 low))

row-high : (kinds : List ℕ) (byte : ℕ) → 128 ≤ byte → row_of_byte kinds byte ≡ row_of_kind 0
row-high kinds byte high =
    let past : ltb byte 128 ≡ false = grind (arith, nat_tests) in
    ap row_of_kind (cond-false (ltb byte 128) (get_or kinds byte 0) 0 past)

abbrev AreKinds : List ℕ → Type 0
AreKinds kinds = (code : ℕ) → get_or kinds code 0 < 84

pub class-byte : (kinds : List ℕ) (byte : ℕ) → AreKinds kinds → class_of_byte kinds byte < 16
class-byte kinds byte are =
    ⊎_elim (λ (low : byte < 128). subst (λ n. n < 16) (sym (class-low kinds byte low)) (class-few _ (are byte)))
    (λ (least : 128 ≤ byte).
    ⊎_elim (λ (below : byte < 192). subst (λ n. n < 16) (sym (class-continuing kinds byte least below)) (lit< tt))
    (λ (high : 192 ≤ byte). subst (λ n. n < 16) (sym (class-high kinds byte high))
    (elim (begins_letters kinds byte) as (λ b. cond b (class_of_kind 0) 0 < 16) [ true ↦ lit< tt | false ↦ lit< tt ]))
    (cases_lt byte 192))
    (cases_lt byte 128)

bit-low : (byte : ℕ) → byte < 128 → (bit_and byte 128 == 0) ≡ true
unfolding high_bit
bit-low byte low =
    elim (bit_and byte 128 == 0) as (λ b. cond b (ltb byte 128) (leb 128 byte) ≡ true → b ≡ true) [
      | true ↦ λ _. refl
      | false ↦ λ past. absurd (let high = leb-true 128 byte past in omega arith)
    ] (each_below-at high_bit 256 byte bits (omega arith))

bit-high : (byte : ℕ) → 128 ≤ byte → byte < 256 → (bit_and byte 128 == 0) ≡ false
unfolding high_bit
bit-high byte high few =
    elim (bit_and byte 128 == 0) as (λ b. cond b (ltb byte 128) (leb 128 byte) ≡ true → b ≡ false) [
      | true ↦ λ low. absurd (let below = ltb-true byte 128 low in omega arith)
      | false ↦ λ _. refl
    ] (each_below-at high_bit 256 byte bits few)

-- so many codes are letters, each of them
letter-at : (kinds : List ℕ) (from n i : ℕ) → are_letters kinds from n ≡ true → i < n → get_or kinds (from + i) 0 ≡ 0
unfolding are_letters
letter-at kinds from zero i all low = absurd (omega arith)
letter-at kinds from (suc n) i all low =
    let parts = and_parts (get_or kinds (from + n) 0 == 0) (are_letters kinds from n) all in
    ⊎_elim (λ (below : i < n). letter-at kinds from n i parts.1 below)
    (λ (last : n ≤ i). ap (λ k. get_or kinds (from + k) 0) (let e : i ≡ n = omega arith in e) ∙ eqb-true _ _ parts.0)
    (cases_lt i n)

module _ (kinds : List ℕ) (pairs : Neighbours) (few : AreKinds kinds) (are : AreNeighboursOf kinds pairs) where
  -- both halves of the number at a byte's place
  entry : (byte : ℕ) → byte < 256
      → picked (get_or pairs.sets.classes (byte / 16 % 8) []) byte ≡ class_of_byte kinds (byte % 128) + 16 * class_of_byte kinds (128 + byte % 128)
  entry byte low =
      let place : 16 * (byte / 16 % 8) + byte % 16 ≡ byte % 128 = omega arith in
      ap (λ n. get_or (get_or pairs.sets.classes (byte / 16 % 8) []) n 0) (low-half byte low)
      ∙ are.classes (byte / 16 % 8) (byte % 16) (omega arith) (omega arith)
      ∙ ap (λ n. class_of_byte kinds n + 16 * class_of_byte kinds (128 + n)) place

  class-at : (byte : ℕ) → byte < 256 → bit_and (class_in pairs.sets.classes byte) 15 ≡ class_of_byte kinds byte
  class-at byte low =
      let both = picked (get_or pairs.sets.classes (byte / 16 % 8) []) byte in
      let is = entry byte low in
      let one = class-byte kinds (byte % 128) few in
      let other = class-byte kinds (128 + byte % 128) few in
      ⊎_elim
      (λ (below : byte < 128).
      let same : byte % 128 ≡ byte = omega arith in
      let first : both % 16 ≡ class_of_byte kinds (byte % 128) = omega (arith, is, one, other) in
      ap (λ n. bit_and n 15) (cond-true (bit_and byte 128 == 0) both (both / 16) (bit-low byte below))
      ∙ low-half both (omega (arith, is, one, other)) ∙ first ∙ ap (class_of_byte kinds) same)
      (λ (past : 128 ≤ byte).
      let same : 128 + byte % 128 ≡ byte = omega arith in
      let second : both / 16 % 16 ≡ class_of_byte kinds (128 + byte % 128) = omega (arith, is, one, other) in
      ap (λ n. bit_and n 15) (cond-false (bit_and byte 128 == 0) both (both / 16) (bit-high byte past low))
      ∙ low-half (both / 16) (omega (arith, is, one, other)) ∙ second ∙ ap (class_of_byte kinds) same)
      (cases_lt byte 128)

  left-at : (byte : ℕ) → byte < 256 → left_in pairs.sets byte ≡ get_or LEFT (class_of_byte kinds byte) 0
  left-at byte low = ap (λ l. get_or l (bit_and (class_in pairs.sets.classes byte) 15) 0) are.left ∙ ap (λ n. get_or LEFT n 0) (class-at byte low)

  right-at : (byte : ℕ) → byte < 256 → right_in pairs.sets byte ≡ get_or RIGHT (class_of_byte kinds byte) 0
  right-at byte low = ap (λ l. get_or l (bit_and (class_in pairs.sets.classes byte) 15) 0) are.right ∙ ap (λ n. get_or RIGHT n 0) (class-at byte low)

  -- the kind that a byte stands for on the left of two
  abbrev kind_before : ℕ → ℕ
  kind_before before = cond (ltb before 128) (get_or kinds before 0) 0

  kind-before-few : (before : ℕ) → kind_before before < 84
  kind-before-few before = elim (ltb before 128) as (λ b. cond b (get_or kinds before 0) 0 < 84) [ true ↦ few before | false ↦ lit< tt ]

  left-known : (before : ℕ) → before < 192 → left_in pairs.sets before ≡ get_or LEFT (class_of_kind (kind_before before)) 0
  left-known before below =
      left-at before (omega arith)
      ∙ ⊎_elim
      (λ (low : before < 128).
      ap (λ n. get_or LEFT n 0) (class-low kinds before low)
      ∙ ap (λ k. get_or LEFT (class_of_kind k) 0) (sym (cond-true (ltb before 128) (get_or kinds before 0) 0 (lt-ltb before 128 low))))
      (λ (past : 128 ≤ before).
      let no : ltb before 128 ≡ false = grind (arith, nat_tests) in
      ap (λ n. get_or LEFT n 0) (class-continuing kinds before past below)
      ∙ ap (λ k. get_or LEFT (class_of_kind k) 0) (sym (cond-false (ltb before 128) (get_or kinds before 0) 0 no)))
      (cases_lt before 128)

  -- a kind that has a row has a class
  has-class : (kind : ℕ) → IsPlace (row_of_kind kind) → (class_of_kind kind == 0) ≡ false
  has-class kind =
      elim (class_of_kind kind == 0) as (λ b. IsPlace (cond b 1 (step_by (steps_in First) 128 kind).next) → b ≡ false) [
        | true ↦ λ place. absurd (let aligned = place.0 in omega arith)
        | false ↦ λ _. refl
      ]

  agree : (m none : Bool) → cond m (not none) none ≡ true → m ≡ not none
  agree true none is = sym is
  agree false none is = ap not (sym is)

  unheld : (n : ℕ) → not (n == HELD) ≡ true → ¬ (n ≡ HELD)
  unheld n is = λ held. false≢true (ap not (sym (eq-eqb n HELD held)) ∙ is)

  settled-by : (profile : Profile) (before byte kind : ℕ) → before < 192 → kind < 84 → get_or kinds byte 0 ≡ kind
      → right_in pairs.sets byte ≡ get_or RIGHT (class_of_kind kind) 0 → get_or pairs.rows byte 0 ≡ row_of_kind kind
      → IsPlace (get_or pairs.rows before 0) → is_special pairs before byte ≡ false
      → (byte < 128) ⊎ StandsForAll kinds pairs.rows pairs.sets byte
      → AreSettled (steps_in profile) kinds pairs before byte
  unfolding told_pair
  settled-by profile before byte kind below low is_kind is_right is_row place plain begins =
      let first = kind_before before in
      let left = left-known before below in
      let row_before : get_or pairs.rows before 0 ≡ row_of_kind first = are.rows before (omega arith) in
      let some = has-class first (subst IsPlace row_before place) in
      let quiet = sym (ap₂ (λ l r. meets l (bit_and r 3)) left is_right) ∙ plain in
      let told = or-right _ _ (or-right _ _ (pair-told profile first kind (kind-before-few before) low) some) quiet in
      let parts = and_parts _ _ told in
      let more = and_parts _ _ parts.1 in
      let same : step_behind (steps_in profile) kinds pairs before byte ≡ step_by (steps_in profile) (row_of_kind first) kind =
      ap₂ (step_by (steps_in profile)) (sym (place-same (get_or pairs.rows before 0) place) ∙ row_before) is_kind in
      record {
        begins = begins;
        apart = λ held. unheld (step_by (steps_in profile) (row_of_kind first) kind).shown parts.0 (ap (λ s. s.shown) (sym same) ∙ held);
        leads = ap (λ s. s.next) same ∙ eqb-true _ _ more.0 ∙ sym is_row;
        breaks =
            ap₂ meets left is_right
            ∙ agree (meets (get_or LEFT (class_of_kind first) 0) (get_or RIGHT (class_of_kind kind) 0)) (is_no (verdict_shown (step_by (steps_in profile) (row_of_kind first) kind).shown).kind) more.1
            ∙ ap (λ s. not (is_no (verdict_shown s.shown).kind)) (sym same);
      }

  letters : (byte : ℕ) → byte < 256 → begins_letters kinds byte ≡ true → StandsForAll kinds pairs.rows pairs.sets byte × (get_or kinds byte 0 ≡ 0)
  letters byte low is =
      let parts = and_parts _ _ is in
      let range = and_parts _ _ parts.0 in
      let more = and_parts _ _ parts.1 in
      let least = leb-true 0xC2 byte range.0 in
      let below = ltb-true byte 0xE0 range.1 in
      let letter : get_or kinds byte 0 ≡ 0 = eqb-true _ _ more.0 in (
        record {
          begins = (least, below);
          each = λ n few_more. record {
            alike = letter-at kinds ((byte - 192) * 64) 64 n more.1 few_more ∙ sym letter;
            leads =
                are.rows (128 + n) (omega arith) ∙ row-high kinds (128 + n) (omega arith)
                ∙ sym (are.rows byte low ∙ row-high kinds byte (omega arith));
            quiet = right-at (128 + n) (omega arith) ∙ ap (λ c. get_or RIGHT c 0) (class-continuing kinds (128 + n) (omega arith) (omega arith));
          };
        },
        letter,
      )

  pub neighbours-told : (profile : Profile) → AreTold (steps_in profile) kinds pairs
  neighbours-told profile before byte below low begins place plain =
      ⊎_elim
      (λ (ascii : byte < 128).
      settled-by profile before byte (get_or kinds byte 0) below (few byte) refl
      (right-at byte low ∙ ap (λ c. get_or RIGHT c 0) (class-low kinds byte ascii))
      (are.rows byte low ∙ row-low kinds byte ascii) place plain (inl ascii))
      (λ (high : 192 ≤ byte).
      (elim (begins_letters kinds byte) as (λ b. begins_letters kinds byte ≡ b → AreSettled (steps_in profile) kinds pairs before byte) [
        | true ↦ λ is.
            let stands = letters byte low is in
            settled-by profile before byte 0 below (lit< tt) stands.1
            (right-at byte low ∙ ap (λ c. get_or RIGHT c 0) (class-high kinds byte high ∙ ap (λ b. cond b (class_of_kind 0) 0) is))
            (are.rows byte low ∙ row-high kinds byte (omega arith)) place plain (inr stands.0)
        | false ↦ λ is.
            let first = kind_before before in
            let some = has-class first (subst IsPlace (are.rows before (omega arith)) place) in
            let is_right = right-at byte low ∙ ap (λ c. get_or RIGHT c 0) (class-high kinds byte high ∙ ap (λ b. cond b (class_of_kind 0) 0) is) in
            absurd (false≢true (sym plain ∙ ap₂ (λ l r. meets l (bit_and r 3)) (left-known before below) is_right ∙ left-odd first (kind-before-few before) some))
      ]) refl)
      begins

-- one code that is no letter
pub letter-missing : (kinds : List ℕ) (from n i : ℕ) → i < n → ¬ (get_or kinds (from + i) 0 ≡ 0) → false ≡ are_letters kinds from n
letter-missing kinds from n i low other =
    elim (are_letters kinds from n) as (λ b. are_letters kinds from n ≡ b → false ≡ b) [
      | true ↦ λ all. absurd (other (letter-at kinds from n i all low))
      | false ↦ λ _. refl
    ] refl

pub letter-more : (kinds : List ℕ) (from n : ℕ) → are_letters kinds from n ≡ true → get_or kinds (from + n) 0 ≡ 0 → are_letters kinds from (suc n) ≡ true
unfolding are_letters
letter-more kinds from n all letter = and_from (get_or kinds (from + n) 0 == 0) (are_letters kinds from n) (eq-eqb _ 0 letter) all
