-- The segments of a text.
use Rattle.std.proofs.Common.{◌≡◌, ℕ, ◌+◌, ◌<◌, ◌≤◌, Bool, true, false, ◌&&◌, ◌||◌, nat_le, nat_lt, List, length, slice_index, slice_range, refl, arith, subst}
use Rattle.std.proofs.lemmas.Bool.{and_parts}
use Rattle.std.proofs.lemmas.Bool.Decides.{nat_tests}
use Rattle.std.proofs.lemmas.Str.{IsUtf8-between, IsUtf8-nil}
use Rattle.std.specs.Str.{IsCharBoundary, IsUtf8}
use Rattle.unicode_segmentation.proofs.TextLemmas.{length-slice_range}
use Rattle.lbk_wrap.specs.Lines.{is_boundary, text_to}

boundary-is : (n at byte : ℕ) → ((nat_le at n && (nat_le n at || nat_lt byte 128 || nat_le 192 byte)) ≡ true
    → (at ≤ n) × (at < n → 128 ≤ byte → 192 ≤ byte))
boundary-is n at byte h = grind (arith, nat_tests)

boundary-test : (n at byte : ℕ) → at ≤ n → (at < n → 128 ≤ byte → 192 ≤ byte)
    → (nat_le at n && (nat_le n at || nat_lt byte 128 || nat_le 192 byte)) ≡ true
boundary-test n at byte h k = grind (arith, nat_tests)

pub is_place : (text : List ℕ) (at : ℕ) → is_boundary text at ≡ true → IsCharBoundary text at
is_place text at h = boundary-is (length text) at (slice_index text at) h

pub place-test : (text : List ℕ) (at : ℕ) → IsCharBoundary text at → is_boundary text at ≡ true
place-test text at h = boundary-test (length text) at (slice_index text at) h.0 h.1

-- a part of a text is a text, and ends at a place of it
pub record IsPart (text : List ℕ) (at : ℕ) (part : List ℕ) : Type 0 where
  pub utf8 : IsUtf8 part
  pub next : IsCharBoundary text (at + length part)

within : (at end : ℕ) (b : Bool) → (nat_le at end && b) ≡ true → (at ≤ end) × (b ≡ true)
within at end b h = let parts = and_parts (nat_le at end) b h in (grind (arith, nat_tests), parts.1)

pub is_part-by : (text : List ℕ) (at end : ℕ) (b : Bool) → (nat_le at end && is_boundary text end) ≡ b → IsUtf8 text
    → IsCharBoundary text at → IsPart text at (text_to text at end)
unfolding text_to
is_part-by text at end true h utf8 here =
    let ends = within at end (is_boundary text end) h in
    let there = is_place text end ends.1 in
    let e : end ≡ at + length (slice_range text at end) = omega (arith, length-slice_range text at end there.0, ends.0) in
    rw h (record { utf8 = IsUtf8-between text at end utf8 ends.0 here there; next = subst (IsCharBoundary text) e there })
is_part-by text at end false h utf8 here =
    let e : at ≡ at + 0 = omega arith in
    rw h (record { utf8 = IsUtf8-nil; next = subst (IsCharBoundary text) e here })

pub is_part : (text : List ℕ) (at end : ℕ) → IsUtf8 text → IsCharBoundary text at → IsPart text at (text_to text at end)
is_part text at end utf8 here = is_part-by text at end (nat_le at end && is_boundary text end) refl utf8 here

-- and goes to where it is to end, if that is a place of the text behind it
pub part-whole : (text : List ℕ) (at end : ℕ) → at ≤ end → IsCharBoundary text end → at + length (text_to text at end) ≡ end
unfolding text_to
part-whole text at end le there =
    rw (both (nat_le at end) (is_boundary text end) (grind (arith, nat_tests)) (place-test text end there))
    (omega (arith, length-slice_range text at end there.0))
  where
    both : (a b : Bool) → a ≡ true → b ≡ true → (a && b) ≡ true
    both a b p q = cc
