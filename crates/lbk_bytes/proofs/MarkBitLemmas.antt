-- Bits of one number joined to those of some words.
use Rattle.std.proofs.Common.{◌≡◌, ◌⊎◌, ℕ, ◌+◌, ◌-◌, ◌*◌, ◌/◌, ◌%◌, ◌^◌, ◌==◌, ◌<◌, ◌≤◌, ◌&&◌, ◌||◌, false, leb, List, refl, sym, ap, ap₂, ◌∙◌, ⊎_elim, inl, inr, arith}
use Rattle.std.proofs.lemmas.Bool.{and_left, and_right, cases_eq, cases_lt, eq-eqb, le-leb, lt-leb, ne_eqb}
use Rattle.std.proofs.lemmas.Nat.{shr-shr}
use Rattle.std.proofs.lemmas.Nat.Bits.{bit_at_above}
use Rattle.lbk_masks.proofs.WordLemmas.{or-none}
use Rattle.lbk_masks.proofs.BitLemmas.{set-raised}
use Rattle.lbk_masks.specs.Sets.{is_set}
use Rattle.lbk_bytes.specs.Marks.{is_marked}
use Rattle.lbk_bytes.proofs.MarkLemmas.{or-assoc}

-- no bit past the last
pub none-past : (n i : ℕ) → n < 2 ^ 64 → 64 ≤ i → is_set n i ≡ false
none-past n i fits past = ap (λ b. b == 1) (bit_at_above n 64 i fits past)

-- down by some places
down : (n t i : ℕ) → is_set (n / 2 ^ t) i ≡ is_set n (t + i)
down n t i = ap (λ m. m % 2 == 1) (shr-shr n t i)

-- in the word of the index: as far up as the index stands in it
in-first : (index bits i : ℕ) → i / 64 ≡ index / 64 → is_set (bits * 2 ^ (index % 64) % 2 ^ 64) (i % 64) ≡ (leb index i && is_set bits (i - index))
in-first index bits i same =
    set-raised bits (index % 64) (i % 64) (omega arith)
    ∙ ap₂ ◌&&◌ same-order (ap (is_set bits) (let e : i % 64 - index % 64 ≡ i - index = omega arith in e))
  where
    same-order : leb (index % 64) (i % 64) ≡ leb index i
    same-order =
        ⊎_elim
        (λ (before : i < index). lt-leb (index % 64) (i % 64) (omega arith) ∙ sym (lt-leb index i before))
        (λ (after : index ≤ i). le-leb (index % 64) (i % 64) (omega arith) ∙ sym (le-leb index i after))
        (cases_lt i index)

-- in the next word: what was left
in-second : (index bits i : ℕ) → i / 64 ≡ index / 64 + 1 → is_set (bits / 2 ^ (64 - index % 64)) (i % 64) ≡ (leb index i && is_set bits (i - index))
in-second index bits i next =
    down bits (64 - index % 64) (i % 64)
    ∙ ap₂ ◌&&◌ (sym (le-leb index i (omega arith))) (ap (is_set bits) (let e : 64 - index % 64 + i % 64 ≡ i - index = omega arith in e))

-- in no other
in-none : (index bits i : ℕ) → bits < 2 ^ 64 → (i / 64 < index / 64) ⊎ (index + 64 ≤ i) → (leb index i && is_set bits (i - index)) ≡ false
in-none index bits i fits (inl before) = and_left (leb index i) (is_set bits (i - index)) (lt-leb index i (omega arith))
in-none index bits i fits (inr past) = and_right (leb index i) (is_set bits (i - index)) (none-past bits (i - index) fits (omega arith))

-- where no other word has it, the word of its index has it
alone : (index bits i : ℕ) → bits < 2 ^ 64 → ((i / 64 ≡ index / 64 → ⊥) → (i / 64 < index / 64) ⊎ (index + 64 ≤ i))
    → ((i / 64 == index / 64) && is_set (bits * 2 ^ (index % 64) % 2 ^ 64) (i % 64)) ≡ (leb index i && is_set bits (i - index))
alone index bits i fits no_other =
    ⊎_elim
    (λ (same : i / 64 ≡ index / 64).
    ap (λ b. b && is_set (bits * 2 ^ (index % 64) % 2 ^ 64) (i % 64)) (eq-eqb (i / 64) (index / 64) same) ∙ in-first index bits i same)
    (λ (apart : i / 64 ≡ index / 64 → ⊥).
    and_left (i / 64 == index / 64) (is_set (bits * 2 ^ (index % 64) % 2 ^ 64) (i % 64)) (ne_eqb (i / 64) (index / 64) apart)
    ∙ sym (in-none index bits i fits (no_other apart)))
    (cases_eq (i / 64) (index / 64))

both : (index bits i : ℕ) → bits < 2 ^ 64
    → (((i / 64 == index / 64) && is_set (bits * 2 ^ (index % 64) % 2 ^ 64) (i % 64)) || ((i / 64 == index / 64 + 1) && is_set (bits / 2 ^ (64 - index % 64)) (i % 64)))
    ≡ (leb index i && is_set bits (i - index))
both index bits i fits =
    let low = is_set (bits * 2 ^ (index % 64) % 2 ^ 64) (i % 64) in
    let high = is_set (bits / 2 ^ (64 - index % 64)) (i % 64) in
    let first = i / 64 == index / 64 in
    let second = i / 64 == index / 64 + 1 in
    ⊎_elim
    (λ (same : i / 64 ≡ index / 64).
    ap₂ ◌||◌ (ap (λ b. b && low) (eq-eqb (i / 64) (index / 64) same)) (and_left second high (ne_eqb (i / 64) (index / 64 + 1) (λ e. omega arith)))
    ∙ sym (or-none low false refl) ∙ in-first index bits i same)
    (λ (apart : i / 64 ≡ index / 64 → ⊥).
    ap (λ b. b || (second && high)) (and_left first low (ne_eqb (i / 64) (index / 64) apart))
    ∙ ⊎_elim
    (λ (next : i / 64 ≡ index / 64 + 1). ap (λ b. b && high) (eq-eqb (i / 64) (index / 64 + 1) next) ∙ in-second index bits i next)
    (λ (other : i / 64 ≡ index / 64 + 1 → ⊥).
    and_left second high (ne_eqb (i / 64) (index / 64 + 1) other)
    ∙ sym (in-none index bits i fits
    (⊎_elim (λ (less : i / 64 < index / 64). inl less) (λ (more : index / 64 ≤ i / 64). inr (omega arith)) (cases_lt (i / 64) (index / 64)))))
    (cases_eq (i / 64) (index / 64 + 1)))
    (cases_eq (i / 64) (index / 64))

-- a number's bits in one word, or in two
pub marked-whole : (words new : List ℕ) (index bits i : ℕ) → bits < 2 ^ 64 → index % 64 ≡ 0
    → is_marked new i ≡ (is_marked words i || ((i / 64 == index / 64) && is_set (bits * 2 ^ (index % 64) % 2 ^ 64) (i % 64)))
    → is_marked new i ≡ (is_marked words i || (leb index i && is_set bits (i - index)))
marked-whole words new index bits i fits whole once = once ∙ ap (λ b. is_marked words i || b) (alone index bits i fits (λ apart.
    ⊎_elim (λ (less : i / 64 < index / 64). inl less) (λ (more : index / 64 ≤ i / 64). inr (omega arith)) (cases_lt (i / 64) (index / 64))))

pub marked-both : (words some new : List ℕ) (index bits i : ℕ) → bits < 2 ^ 64
    → is_marked some i ≡ (is_marked words i || ((i / 64 == index / 64) && is_set (bits * 2 ^ (index % 64) % 2 ^ 64) (i % 64)))
    → is_marked new i ≡ (is_marked some i || ((i / 64 == index / 64 + 1) && is_set (bits / 2 ^ (64 - index % 64)) (i % 64)))
    → is_marked new i ≡ (is_marked words i || (leb index i && is_set bits (i - index)))
marked-both words some new index bits i fits once twice =
    let low = (i / 64 == index / 64) && is_set (bits * 2 ^ (index % 64) % 2 ^ 64) (i % 64) in
    let high = (i / 64 == index / 64 + 1) && is_set (bits / 2 ^ (64 - index % 64)) (i % 64) in
    twice ∙ ap (λ b. b || high) once ∙ or-assoc (is_marked words i) low high ∙ ap (λ b. is_marked words i || b) (both index bits i fits)

-- in the last of the words
pub marked-last : (words new : List ℕ) (index bits i : ℕ) → bits < 2 ^ 64 → i / 64 ≤ index / 64
    → is_marked new i ≡ (is_marked words i || ((i / 64 == index / 64) && is_set (bits * 2 ^ (index % 64) % 2 ^ 64) (i % 64)))
    → is_marked new i ≡ (is_marked words i || (leb index i && is_set bits (i - index)))
marked-last words new index bits i fits within once = once ∙ ap (λ b. is_marked words i || b) (alone index bits i fits (λ apart. inl (omega arith)))
