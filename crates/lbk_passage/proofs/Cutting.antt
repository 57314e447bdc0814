-- A list that is cut after each element that ends a part.
use Rattle.std.proofs.Common.{◌≡◌, Bool, true, false, cond, List, [], ◌∷◌, ◌++◌, map, refl, sym, ap, subst, ◌∙◌}
use Rattle.std.specs.List.{AllByRecursion, flat_map}
use Rattle.std.proofs.lemmas.List.{map-id}
use Rattle.lbk_passage.specs.Laws.{IsPart}
use Rattle.lbk_passage.specs.Passages.{cut_after, join_first}

-- of these elements perhaps the last ends a part, and no other · the last ends one, and perhaps others
abbrev pub IsOpenPart : {A : Type 0} → (A → Bool) → List A → Type 0
IsOpenPart ends [] = Unit {0}
IsOpenPart ends (x ∷ []) = Unit {0}
IsOpenPart ends (x ∷ y ∷ xs) = (ends x ≡ false) × IsOpenPart ends (y ∷ xs)

abbrev pub IsClosed : {A : Type 0} → (A → Bool) → List A → Type 0
IsClosed ends [] = Unit {0}
IsClosed ends (x ∷ []) = ends x ≡ true
IsClosed ends (x ∷ y ∷ xs) = IsClosed ends (y ∷ xs)

module _ {A : Type 0} (ends : A → Bool) where
  pub cut_after-step : (x : A) (xs : List A) (b : Bool) → ends x ≡ b
      → cut_after ends (x ∷ xs) ≡ cond b ((x ∷ []) ∷ cut_after ends xs) (join_first x (cut_after ends xs))
  cut_after-step x xs b is = ap (λ v. cond v ((x ∷ []) ∷ cut_after ends xs) (join_first x (cut_after ends xs))) is

  -- a part is the first of what begins with it
  pub cut_after-part : (xs ys : List A) → IsPart ends xs → cut_after ends (xs ++ ys) ≡ xs ∷ cut_after ends ys
  cut_after-part [] ys part = absurd part
  cut_after-part (x ∷ []) ys part = cut_after-step x ys true part
  cut_after-part (x ∷ y ∷ xs) ys part =
      cut_after-step x ((y ∷ xs) ++ ys) false part.0 ∙ ap (join_first x) (cut_after-part (y ∷ xs) ys part.1)

  pub cut_after-alone : (xs : List A) → IsPart ends xs → cut_after ends xs ≡ xs ∷ []
  cut_after-alone [] part = absurd part
  cut_after-alone (x ∷ []) part = cut_after-step x [] true part
  cut_after-alone (x ∷ y ∷ xs) part = cut_after-step x (y ∷ xs) false part.0 ∙ ap (join_first x) (cut_after-alone (y ∷ xs) part.1)

  -- the first part holds all of what is open
  pub record Holds (xs : List A) (parts : List (List A)) : Type 0 where
    pub behind : List A
    pub others : List (List A)
    pub is : parts ≡ (xs ++ behind) ∷ others

  joined : (x : A) (parts : List (List A)) → Holds (x ∷ []) (join_first x parts)
  joined x [] = record { behind = []; others = []; is = refl }
  joined x (part ∷ parts) = record { behind = part; others = parts; is = refl }

  pub cut_after-open : (x : A) (xs ys : List A) → IsOpenPart ends (x ∷ xs) → Holds (x ∷ xs) (cut_after ends ((x ∷ xs) ++ ys))
  cut_after-open x [] ys part = by (ends x) refl
    where
      by : (b : Bool) → ends x ≡ b → Holds (x ∷ []) (cut_after ends (x ∷ ys))
      by true is = record { behind = []; others = cut_after ends ys; is = cut_after-step x ys true is }
      by false is =
          let rest = joined x (cut_after ends ys) in
          record { behind = rest.behind; others = rest.others; is = cut_after-step x ys false is ∙ rest.is }
  cut_after-open x (y ∷ xs) ys part =
      let rest = cut_after-open y xs ys part.1 in
      record { behind = rest.behind; others = rest.others; is = cut_after-step x ((y ∷ xs) ++ ys) false part.0 ∙ ap (join_first x) rest.is }

  -- what is open is at most one part
  pub cut_after-few : (x : A) (xs : List A) → IsOpenPart ends (x ∷ xs) → cut_after ends (x ∷ xs) ≡ (x ∷ xs) ∷ []
  cut_after-few x [] part = by (ends x) refl
    where
      by : (b : Bool) → ends x ≡ b → cut_after ends (x ∷ []) ≡ (x ∷ []) ∷ []
      by true is = cut_after-step x [] true is
      by false is = cut_after-step x [] false is
  cut_after-few x (y ∷ xs) part = cut_after-step x (y ∷ xs) false part.0 ∙ ap (join_first x) (cut_after-few y xs part.1)

  join_first-append : (x : A) (p : List A) (ps qs : List (List A)) → join_first x ((p ∷ ps) ++ qs) ≡ join_first x (p ∷ ps) ++ qs
  join_first-append x p ps qs = refl

  -- some part is cut of some elements
  pub record IsSome (parts : List (List A)) : Type 0 where
    pub first : List A
    pub others : List (List A)
    pub is : parts ≡ first ∷ others

  some : (x : A) (xs : List A) → IsSome (cut_after ends (x ∷ xs))
  some x xs = by (ends x) refl
    where
      by : (b : Bool) → ends x ≡ b → IsSome (cut_after ends (x ∷ xs))
      by true is = record { first = x ∷ []; others = cut_after ends xs; is = cut_after-step x xs true is }
      by false is =
          let rest = joined x (cut_after ends xs) in
          record { first = x ∷ rest.behind; others = rest.others; is = cut_after-step x xs false is ∙ rest.is }

  -- two lists joined, where the first ends a part
  pub cut_after-append : (xs ys : List A) → IsClosed ends xs → cut_after ends (xs ++ ys) ≡ cut_after ends xs ++ cut_after ends ys
  cut_after-append [] ys closed = refl
  cut_after-append (x ∷ []) ys closed = cut_after-step x ys true closed ∙ ap (λ l. l ++ cut_after ends ys) (sym (cut_after-step x [] true closed))
  cut_after-append (x ∷ y ∷ xs) ys closed = by (cut_after-append (y ∷ xs) ys closed) (ends x) refl
    where
      by : cut_after ends ((y ∷ xs) ++ ys) ≡ cut_after ends (y ∷ xs) ++ cut_after ends ys
          → (b : Bool) → ends x ≡ b → cut_after ends ((x ∷ y ∷ xs) ++ ys) ≡ cut_after ends (x ∷ y ∷ xs) ++ cut_after ends ys
      by rest true is =
          cut_after-step x ((y ∷ xs) ++ ys) true is ∙ ap (λ l. (x ∷ []) ∷ l) rest ∙ ap (λ l. l ++ cut_after ends ys) (sym (cut_after-step x (y ∷ xs) true is))
      by rest false is =
          let s = some y xs in
          cut_after-step x ((y ∷ xs) ++ ys) false is ∙ ap (join_first x) (rest ∙ ap (λ l. l ++ cut_after ends ys) s.is)
          ∙ join_first-append x s.first s.others (cut_after ends ys) ∙ ap (λ l. join_first x l ++ cut_after ends ys) (sym s.is)
          ∙ ap (λ l. l ++ cut_after ends ys) (sym (cut_after-step x (y ∷ xs) false is))

  -- the parts, joined, are the list
  pub cut_after-joined : {B : Type 0} (f : A → B) (xs : List A) → flat_map (map f) (cut_after ends xs) ≡ map f xs
  cut_after-joined f [] = refl
  cut_after-joined f (x ∷ xs) = by (cut_after-joined f xs) (ends x) refl
    where
      put_first : (parts : List (List A)) → flat_map (map f) (join_first x parts) ≡ f x ∷ flat_map (map f) parts
      put_first [] = refl
      put_first (part ∷ parts) = refl

      by : flat_map (map f) (cut_after ends xs) ≡ map f xs → (b : Bool) → ends x ≡ b → flat_map (map f) (cut_after ends (x ∷ xs)) ≡ f x ∷ map f xs
      by rest true is = ap (flat_map (map f)) (cut_after-step x xs true is) ∙ ap (λ l. f x ∷ l) rest
      by rest false is = ap (flat_map (map f)) (cut_after-step x xs false is) ∙ put_first (cut_after ends xs) ∙ ap (λ l. f x ∷ l) rest

  -- and as they are
  pub cut_after-whole : (xs : List A) → flat_map (λ part. part) (cut_after ends xs) ≡ xs
  cut_after-whole xs = sym (same (cut_after ends xs)) ∙ cut_after-joined (λ x. x) xs ∙ map-id xs
    where
      same : (parts : List (List A)) → flat_map (map (λ x. x)) parts ≡ flat_map (λ part. part) parts
      same [] = refl
      same (part ∷ parts) = ap (λ l. l ++ flat_map (map (λ x. x)) parts) (map-id part) ∙ ap (λ l. part ++ l) (same parts)

  -- each part ends, where the list does
  pub cut_after-ends : (xs : List A) → IsClosed ends xs → AllByRecursion (IsPart ends) (cut_after ends xs)
  cut_after-ends [] closed = tt
  cut_after-ends (x ∷ []) closed = subst (AllByRecursion (IsPart ends)) (sym (cut_after-step x [] true closed)) (closed, tt)
  cut_after-ends (x ∷ y ∷ xs) closed = by (cut_after-ends (y ∷ xs) closed) (ends x) refl
    where
      put : (first : List A) (others : List (List A)) → ends x ≡ false → AllByRecursion (IsPart ends) (first ∷ others)
          → AllByRecursion (IsPart ends) (join_first x (first ∷ others))
      put [] others is all = absurd all.0
      put (f ∷ fs) others is all = ((is, all.0), all.1)

      by : AllByRecursion (IsPart ends) (cut_after ends (y ∷ xs)) → (b : Bool) → ends x ≡ b → AllByRecursion (IsPart ends) (cut_after ends (x ∷ y ∷ xs))
      by rest true is = subst (AllByRecursion (IsPart ends)) (sym (cut_after-step x (y ∷ xs) true is)) (is, rest)
      by rest false is =
          let s = some y xs in
          subst (AllByRecursion (IsPart ends)) (sym (cut_after-step x (y ∷ xs) false is ∙ ap (join_first x) s.is))
          (put s.first s.others is (subst (AllByRecursion (IsPart ends)) s.is rest))

  -- parts that end so are the cutting of what they are, joined
  pub cut_after-only : (parts : List (List A)) → AllByRecursion (IsPart ends) parts → cut_after ends (flat_map (λ part. part) parts) ≡ parts
  cut_after-only [] all = refl
  cut_after-only (part ∷ parts) all =
      cut_after-part part (flat_map (λ p. p) parts) all.0 ∙ ap (λ l. part ∷ l) (cut_after-only parts all.1)
