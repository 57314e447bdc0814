-- Scalars that stay in one paragraph, one more of them at a time.
use Rattle.std.proofs.Common.{◌≡◌, ℕ, ◌+◌, true, false, not, List, [], ◌∷◌, ◌++◌, length, Option, Some, encode_utf8, encode_utf8_all, refl, ap, ◌∙◌, length-append, append-nil}
use Rattle.std.proofs.lemmas.Str.{encodes-append}
use Rattle.lbk_rules.specs.declared.Class.{Class}
use Rattle.lbk_rules.specs.declared.Cell.{Cell}
use Rattle.lbk_passage.specs.Stays.{ends_at, stays, last_class}
use Rattle.lbk_passage.proofs.Booleans.{and-true, both-left, both-right}

module _ (cell : ℕ → Cell) where
  pub last_class-append : (last : Option Class) (xs ys : List ℕ) → last_class cell last (xs ++ ys) ≡ last_class cell (last_class cell last xs) ys
  last_class-append last [] ys = refl
  last_class-append last (c ∷ cs) ys = last_class-append (Some (cell c).class) cs ys

  pub stays-append : (last : Option Class) (xs ys : List ℕ) → stays cell last xs ≡ true → stays cell (last_class cell last xs) ys ≡ true
      → stays cell last (xs ++ ys) ≡ true
  stays-append last [] ys a b = b
  stays-append last (c ∷ cs) ys a b =
      and-true _ _ (both-left _ _ a) (stays-append (Some (cell c).class) cs ys (both-right _ _ a) b)

  pub stays-snoc : (last : Option Class) (xs : List ℕ) (c : ℕ) → stays cell last xs ≡ true
      → ends_at (last_class cell last xs) (cell c).class ≡ false → stays cell last (xs ++ c ∷ []) ≡ true
  stays-snoc last xs c a ends = stays-append last xs (c ∷ []) a (and-true _ _ (ap not ends) refl)

pub length-encode_more : (xs : List ℕ) (c : ℕ) → length (encode_utf8_all (xs ++ c ∷ [])) ≡ length (encode_utf8_all xs) + length (encode_utf8 c)
length-encode_more xs c =
    ap length (encodes-append xs (c ∷ [])) ∙ length-append (encode_utf8_all xs) (encode_utf8_all (c ∷ [])) ∙ ap (λ l. length (encode_utf8_all xs) + length l) (append-nil (encode_utf8 c))
