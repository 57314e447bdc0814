-- The bytes of a paragraph, gathered or lent.
use Rattle.std.proofs.Common.{◌≡◌, ℕ, ◌+◌, ◌-◌, ◌≤◌, ◌==◌, Bool, true, false, List, [], ◌∷◌, ◌++◌, length, take, drop, String, string_bytes, string_len, IsUtf8, IsCharBoundary, if◌then◌else◌, refl, sym, ap, ◌∙◌, arith, length-append, length-drop, length-take-le}
use Rattle.std.proofs.lemmas.Bool.{eqb-true}
use Rattle.std.proofs.lemmas.List.{drop_all, drop_at}
use Rattle.std.proofs.lemmas.Str.{IsUtf8-nil, IsUtf8-from_is_utf8, is_utf8-from_IsUtf8, IsUtf8-string_bytes, IsUtf8-take}
use Rattle.std.specs.Str.{is_utf8}
use Rattle.lbk_feed.specs.View.{View, last_used}
use Rattle.lbk_passage.specs.Lent.{IsLent}
use Rattle.lbk_passage.specs.State.{bytes_in}
use Rattle.lbk_passage.specs.declared.paragraph.Paragraph.{Paragraph}

-- the length that a string keeps is that of its bytes
pub string_len-is : {Z : Type 0} (s : String Z) → string_len s ≡ length (string_bytes s)
string_len-is s = s.bytes.ok.0

-- what holds of the bytes gathered and of those lent holds of either
either : (P : List ℕ → Type 0) (b : Bool) (xs ys : List ℕ) → P xs → P ys → P (if b then xs else ys)
either P true xs ys p q = p
either P false xs ys p q = q

length-last : (f : View) (n : ℕ) → n ≤ length f.behind → length (last_used f n) ≡ n
length-last f n few = omega (arith, length-drop (length f.behind - n) f.behind)

last-none : (f : View) → last_used f 0 ≡ []
last-none f = drop_all (length f.behind - 0) f.behind (omega arith)

pub IsLent-none : (limit : ℕ) (f : View) → IsLent 0 limit f
IsLent-none limit f = record {
  within = omega arith;
  given = omega arith;
  at_hand = omega arith;
  utf8 = ap is_utf8 (last-none f) ∙ is_utf8-from_IsUtf8 [] IsUtf8-nil;
}

module _ (p : Paragraph) where
  pub lent-utf8 : IsUtf8 (last_used p.feed p.lent)
  lent-utf8 = IsUtf8-from_is_utf8 (last_used p.feed p.lent) p.behind.utf8

  pub IsUtf8-bytes_in : IsUtf8 (bytes_in p)
  IsUtf8-bytes_in = either IsUtf8 (p.lent == 0) (string_bytes p.text) (last_used p.feed p.lent) (IsUtf8-string_bytes p.text) lent-utf8

  pub bytes-within : length (bytes_in p) ≤ p.limit
  bytes-within =
      let kept = p.within in
      let lent = p.behind.within in
      let at_hand = p.behind.at_hand in
      either (λ l. length l ≤ p.limit) (p.lent == 0) (string_bytes p.text) (last_used p.feed p.lent)
      (omega (arith, kept, string_len-is p.text)) (omega (arith, lent, length-last p.feed p.lent at_hand))

  pub bytes-given : length (bytes_in p) ≤ p.feed.given
  bytes-given =
      let kept = p.given in
      let lent = p.behind.given in
      let at_hand = p.behind.at_hand in
      either (λ l. length l ≤ p.feed.given) (p.lent == 0) (string_bytes p.text) (last_used p.feed p.lent)
      (omega (arith, kept, string_len-is p.text)) (omega (arith, lent, length-last p.feed p.lent at_hand))

  -- where none of it is lent, its bytes are those that were gathered
  pub bytes-gathered : p.lent ≡ 0 → bytes_in p ≡ string_bytes p.text
  bytes-gathered none = ap (λ n. if n == 0 then string_bytes p.text else last_used p.feed n) none

  pub len-gathered : p.lent ≡ 0 → length (bytes_in p) ≡ string_len p.text
  len-gathered none = ap length (bytes-gathered none) ∙ sym (string_len-is p.text)

-- the same as an `if` shows them
pub gathered-bytes : (n : ℕ) (xs ys : List ℕ) → n ≡ 0 → (if n == 0 then xs else ys) ≡ xs
gathered-bytes n xs ys none = ap (λ k. if k == 0 then xs else ys) none

nil : (l : List ℕ) → length l ≡ 0 → l ≡ []
nil [] none = refl
nil (x ∷ xs) none = absurd (omega arith)

none_or : (n : ℕ) (none whole : List ℕ) → none ≡ [] → length whole ≡ n → (if n == 0 then none else whole) ≡ whole
none_or n none whole is long = by (n == 0) refl
  where
    by : (b : Bool) → (n == 0) ≡ b → (if b then none else whole) ≡ whole
    by true e = is ∙ sym (nil whole (long ∙ eqb-true n 0 e))
    by false e = refl

-- the first bytes that were ready were consumed
module _ (old new : View) (len : ℕ) (place : IsCharBoundary old.ready len)
    (used : new ≡ record old { held = drop len old.held; ready = drop len old.ready; behind = old.behind ++ take len old.ready; given = old.given + len }) where
  long : length (take len old.ready) ≡ len
  long = length-take-le len old.ready place.0

  last-used : last_used new len ≡ take len old.ready
  last-used =
      let all = length-append old.behind (take len old.ready) in
      ap (λ f. last_used f len) used
      ∙ drop_at old.behind (take len old.ready) (length (old.behind ++ take len old.ready) - len) (omega (arith, all, long))

  pub IsLent-used : (limit : ℕ) → len ≤ limit → IsUtf8 old.ready → IsLent len limit new
  IsLent-used limit few utf8 = record {
    within = few;
    given = omega (arith, ap (λ f. f.given) used);
    at_hand = omega (arith, ap (λ f. length f.behind) used, length-append old.behind (take len old.ready), long);
    utf8 = ap is_utf8 last-used ∙ is_utf8-from_IsUtf8 (take len old.ready) (IsUtf8-take old.ready len utf8 place);
  }

  pub bytes-used : (gathered : List ℕ) → gathered ≡ [] → (if len == 0 then gathered else last_used new len) ≡ take len old.ready
  bytes-used gathered none = none_or len gathered (last_used new len) none (ap length last-used ∙ long) ∙ last-used
