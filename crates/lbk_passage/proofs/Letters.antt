-- What the first byte of a piece tells of whether it holds a letter or a number.
use Rattle.std.proofs.Common.{◌≡◌, ℕ, ◌<◌, ◌≤◌, Bool, true, false, ◌||◌, nat_lt, List, [], ◌∷◌, ◌++◌, length, drop, subst, slice_index_or, encode_utf8, encode_utf8_all, IsUtf8, inl, inr, refl, sym, ap, ◌∙◌, arith, length-append}
use Rattle.std.specs.Char.{len_utf8}
use Rattle.std.specs.List.{list_any}
use Rattle.std.specs.Str.{chars}
use Rattle.std.proofs.lemmas.Bool.{cases_lt, lt-ltb}
use Rattle.std.proofs.lemmas.Bool.Decides.{nat_tests}
use Rattle.std.proofs.Math.ListN.{drop_of_length-le}
use Rattle.std.proofs.Math.Utf8.{scalars}
use Rattle.std.proofs.lemmas.List.{get_or_append_left}
use Rattle.std.proofs.lemmas.Str.{byte_from_char, chars-nil, encodes-chars, length-encode, scalars-chars}
use Rattle.lbk_rules.specs.declared.Cell.{Cell}
use Rattle.lbk_passage.specs.Flags.{AreLetters, length_told}
use Rattle.lbk_passage.specs.Pieces.{is_word}
use Rattle.lbk_rules.specs.FirstBytes.{first_byte}
use Rattle.lbk_passage.proofs.Booleans.{both-left}
use Rattle.lbk_passage.proofs.FlagLemmas.{some_bytes}
use Rattle.lbk_passage.proofs.Passing.{chars-byte}

two_bytes : (c : ℕ) → 128 ≤ c → 2 ≤ len_utf8 c
two_bytes c high = grind (arith, nat_tests)

-- a text of one byte is a scalar of one byte
one-ascii : (text : List ℕ) → IsUtf8 text → length text ≡ 1 → slice_index_or text 0 0 < 128
one-ascii text utf8 one = go (chars text) (encodes-chars text utf8)
  where
    go : (cs : List ℕ) → encode_utf8_all cs ≡ text → slice_index_or text 0 0 < 128
    go [] is = let impossible : ⊥ = omega (arith, ap length is, one) in absurd impossible
    go (c ∷ cs) is = elim (cases_lt c 128) [
      | inl low ↦ omega (arith, low, byte_from_char text (encode_utf8_all cs) c (sym is) low)
      | inr high ↦
          let long = ap length is in
          let impossible : ⊥ = omega (arith, two_bytes c high, length-encode c, long, length-append (encode_utf8 c) (encode_utf8_all cs), one) in
          absurd impossible
    ]

-- the first byte tells of a piece that is no longer than the length told
pub letter-told : (cell : ℕ → Cell) (lengths : List ℕ) (piece : List ℕ) → IsUtf8 piece → AreLetters cell lengths → 0 < length piece
    → length piece ≤ slice_index_or lengths (slice_index_or piece 0 0) 0
    → nat_lt 1 (slice_index_or lengths (slice_index_or piece 0 0) 0) ≡ is_word cell piece
letter-told cell lengths piece utf8 are some short = elim (cases_lt byte 128) [
  | inl low ↦ go low (cell byte).letter refl
  | inr high ↦ longer high (chars piece) refl
]
  where
    byte : ℕ
    byte = slice_index_or piece 0 0

    told : ℕ
    told = slice_index_or lengths byte 0

    rest : Bool
    rest = list_any (λ c. (cell c).letter) (chars (drop 1 piece))

    longer : 128 ≤ byte → (cs : List ℕ) → chars piece ≡ cs → nat_lt 1 told ≡ is_word cell piece
    longer high [] is =
        let empty = ap (λ l. length (encode_utf8_all l)) (sym is) ∙ ap length (encodes-chars piece utf8) in
        let impossible : ⊥ = omega (arith, empty, some) in
        absurd impossible
    longer high (c ∷ cs) is =
        let splits : encode_utf8 c ++ encode_utf8_all cs ≡ piece = ap encode_utf8_all (sym is) ∙ encodes-chars piece utf8 in
        let begins : first_byte c ≡ byte =
        sym (get_or_append_left (encode_utf8 c) (encode_utf8_all cs) 0 0 (some_bytes c)) ∙ ap (λ l. slice_index_or l 0 0) splits in
        let beyond : 128 ≤ c = elim (cases_lt c 128) [
          | inl low ↦ let same = byte_from_char piece (encode_utf8_all cs) c (sym splits) low in let impossible : ⊥ = omega (arith, same, low, high) in absurd impossible
          | inr above ↦ above
        ] in
        let long : 1 < told = elim (cases_lt 1 (length piece)) [
          | inl more ↦ omega (arith, more, short)
          | inr one ↦ let only = one-ascii piece utf8 (omega (arith, one, some)) in let impossible : ⊥ = omega (arith, only, high) in absurd impossible
        ] in
        let all = ap scalars (sym is) ∙ scalars-chars piece utf8 in
        let letter : (cell c).letter ≡ true = are.longer c (both-left _ _ all) beyond (subst (λ k. 1 < slice_index_or lengths k 0) (sym begins) long) in
        lt-ltb 1 told long ∙ sym (ap (λ b. b || list_any (λ k. (cell k).letter) cs) letter) ∙ ap (list_any (λ k. (cell k).letter)) (sym is)

    any : byte < 128 → (cell byte).letter || rest ≡ is_word cell piece
    any low = sym (ap (list_any (λ c. (cell c).letter)) (chars-byte piece utf8 some low))

    go : byte < 128 → (b : Bool) → (cell byte).letter ≡ b → nat_lt 1 told ≡ is_word cell piece
    go low true is = ap (nat_lt 1) (are.told byte low ∙ ap length_told is) ∙ sym (ap (λ l. l || rest) is) ∙ any low
    go low false is =
        let one : told ≡ 1 = are.told byte low ∙ ap length_told is in
        let alone : length piece ≤ 1 = omega (arith, one, short) in
        let none : rest ≡ false =
        ap (λ l. list_any (λ c. (cell c).letter) (chars l)) (drop_of_length-le piece alone) ∙ ap (list_any (λ c. (cell c).letter)) chars-nil in
        ap (nat_lt 1) one ∙ sym (ap (λ l. l || rest) is ∙ none) ∙ any low
