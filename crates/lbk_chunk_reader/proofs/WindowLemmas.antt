-- The cuts that a window holds, and the next chunk by them.
use Rattle.std.proofs.Common.{◌≡◌, ◌⊎◌, eqb-true, inl, inr, ◌==◌, append-nil, ℕ, suc, ◌+◌, ◌-◌, ◌≤◌, Bool, true, false}
use Rattle.std.proofs.Common.{cond, nat_le, List, [], ◌∷◌, ◌++◌, drop, length, map, take, refl, sym, ap, subst, ◌∙◌}
use Rattle.std.proofs.Common.{arith, length-drop, take-append-drop}
use Rattle.std.proofs.lemmas.List.{drop-append-le, drop-map, length-map, take-map}
use Rattle.std.proofs.lemmas.List.{drop-drop}
use Rattle.std.proofs.Math.Seq.{drop-length}
use Rattle.lbk_chunks.specs.declared.chunk.Chunk.{Chunk}
use Rattle.lbk_chunks.specs.declared.chunk.Limits.{Limits}
use Rattle.lbk_chunks.specs.declared.cut.Cut.{Cut}
use Rattle.lbk_chunks.specs.declared.chunk.Here.{Here}
use Rattle.lbk_chunks.specs.Chunks.{chunk_to, cuts_past, end_of}
use Rattle.lbk_chunks.specs.Cuts.{AreCutsPast}
use Rattle.lbk_chunk_reader.specs.declared.cut.Cut as given
use Rattle.lbk_chunk_reader.specs.Choosing.{IsEndAmong, IsNextChunk, start_among_known}
use Rattle.lbk_chunk_reader.specs.Settled.{EndsLast, IsOpen}
use Rattle.lbk_chunk_reader.specs.Numbered.{numbered}
use Rattle.lbk_chunk_reader.proofs.StartingLemmas.{AreSome, next-among}

-- the cuts of a passage behind those held
pub taken-cuts : (passed : ℕ) (new mid : List given.Cut) (more : List Cut) → passed ≤ length mid
    → map numbered new ≡ map numbered mid ++ more
    → map numbered (drop passed new) ≡ map numbered (drop passed mid) ++ more
taken-cuts passed new mid more few same =
    sym (drop-map numbered passed new) ∙ ap (drop passed) same
    ∙ drop-append-le passed (map numbered mid) more (omega (arith, few, length-map mid numbered))
    ∙ ap (λ l. l ++ more) (drop-map numbered passed mid)

past-few : (at : ℕ) (cs : List Cut) → length (cuts_past at cs) ≤ length cs
past-few at [] = omega arith
past-few at (c ∷ cs) = by (nat_le c.at at) (past-few at cs)
  where
    by : (b : Bool) → length (cuts_past at cs) ≤ length cs
        → length (cond b (cuts_past at cs) (c ∷ cs)) ≤ suc (length cs)
    by true rest = omega (arith, rest)
    by false rest = omega arith

-- those past a byte are the last ones
past-last : (at : ℕ) (cs : List Cut) → drop (length cs - length (cuts_past at cs)) cs ≡ cuts_past at cs
past-last at [] = refl
past-last at (c ∷ cs) = by (nat_le c.at at) (past-few at cs) (past-last at cs)
  where
    by : (b : Bool) → length (cuts_past at cs) ≤ length cs → drop (length cs - length (cuts_past at cs)) cs
        ≡ cuts_past at cs
        → drop (suc (length cs) - length (cond b (cuts_past at cs) (c ∷ cs))) (c ∷ cs)
        ≡ cond b (cuts_past at cs) (c ∷ cs)
    by true few rest = ap (λ n. drop n (c ∷ cs)) (let e : suc (length cs) - length (cuts_past at cs)
        ≡ suc (length cs - length (cuts_past at cs)) = omega (arith, few) in e) ∙ rest
    by false few rest = ap (λ n. drop n (c ∷ cs)) (let e : suc (length cs) - length (c ∷ cs) ≡ 0 = omega arith in e)

module _ (known behind : List given.Cut) (at : ℕ) (is : map numbered behind ≡ cuts_past at (map numbered known)) where
  size : length behind ≡ length (cuts_past at (map numbered known))
  size = sym (length-map behind numbered) ∙ ap length is

  pub last-ones : map numbered (drop (length known - length behind) known) ≡ map numbered behind
  last-ones =
      sym (drop-map numbered (length known - length behind) known)
      ∙ ap (λ n. drop n (map numbered known)) (let e : length known - length behind
      ≡ length (map numbered known) - length (cuts_past at (map numbered known)) =
      omega (arith, size, length-map known numbered) in e)
      ∙ past-last at (map numbered known) ∙ sym is

  -- the others stand before them
  pub split-cuts : map numbered known ≡ map numbered (take (length known - length behind) known) ++ map numbered behind
  split-cuts =
      sym (take-append-drop (length known - length behind) (map numbered known))
      ∙ ap (λ l. l ++ drop (length known - length behind) (map numbered known))
      (take-map numbered (length known - length behind) known)
      ∙ ap (λ l. map numbered (take (length known - length behind) known) ++ l)
      (drop-map numbered (length known - length behind) known ∙ last-ones)

-- so many of all cuts were passed then
pub left-cuts : (items behind : List given.Cut) (passed at : ℕ) → passed ≤ length items
    → map numbered behind ≡ cuts_past at (map numbered (drop passed items))
    → map numbered (drop (length items - length behind) items) ≡ cuts_past at (map numbered (drop passed items))
left-cuts items behind passed at few is =
    let known = drop passed items in
    let count = length-drop passed items in
    let bound : length behind ≤ length known =
    (let a = past-few at (map numbered known) in
    omega (arith, a, ap length is, length-map behind numbered, length-map known numbered)) in
    let place : length items - length behind ≡ passed + (length known - length behind) =
    omega (arith, few, count, bound) in
    ap (λ n. map numbered (drop n items)) place
    ∙ ap (map numbered) (sym (drop-drop (length known - length behind) passed items))
    ∙ last-ones known behind at is ∙ is

some-numbered : (xs : List given.Cut) → (length xs == 0) ≡ false → AreSome (map numbered xs)
some-numbered [] is = absurd (let no : ⊥ = cc in no)
some-numbered (x ∷ xs) is = tt

-- what is behind the end of a chunk, where not all cuts are known
pub behind-some : (behind : List given.Cut) (empty is_whole : Bool) → empty ≡ (length behind == 0) → empty ≡ false
    → AreSome (map numbered behind) ⊎ (is_whole ≡ true)
behind-some behind empty is_whole is none = inl (some-numbered behind (sym is ∙ none))

pub tail-is : (all items : List given.Cut) (passed : ℕ) → all ≡ items → take (length all - passed) (drop passed all)
    ≡ drop passed items
tail-is all items passed same = take-all (length all - passed) (drop passed all) (sym (length-drop passed all))
    ∙ ap (drop passed) same
  where
    take-all : (n : ℕ) (xs : List given.Cut) → n ≡ length xs → take n xs ≡ xs
    take-all n xs is = ap (λ k. take k xs) is ∙ sym (append-nil (take (length xs) xs))
        ∙ ap (λ l. take (length xs) xs ++ l) (sym (drop-length xs)) ∙ take-append-drop (length xs) xs

module _ (l : Limits) (h : Here) (items all ahead behind left : List given.Cut) (passed total : ℕ) (end : given.Cut)
    (is_whole : Bool) (chunk : Chunk) (next : Here)
    (few : passed ≤ length items) (all_is : all ≡ items) (total_is : total ≡ length items) where
  abbrev Known : List given.Cut
  Known = take (length all - passed) (drop passed all)

  pub window-next : map numbered ahead ≡ cuts_past h.told (map numbered Known)
      → IsEndAmong l h (map numbered ahead) is_whole (numbered end)
      → map numbered behind ≡ cuts_past end.at (map numbered Known) → AreSome (map numbered behind) ⊎ (is_whole ≡ true)
      → chunk ≡ chunk_to l h (numbered end)
      → next ≡ start_among_known l h (numbered end) (map numbered behind)
      (map numbered (take (length Known - length behind) Known))
      → map numbered left ≡ cuts_past next.start (map numbered Known)
      → (more : List Cut) → (is_whole ≡ true → more ≡ [])
      → AreCutsPast h.start (map numbered (drop passed items) ++ more)
      → IsNextChunk l h (map numbered (drop passed items) ++ more) chunk next
      (map numbered (drop (total - length left) items) ++ more)
  window-next ahead_is ends behind_is some chunk_is next_is left_is more whole rising =
      let known = drop passed items in
      let same = tail-is all items passed all_is in
      let there : map numbered behind ≡ cuts_past end.at (map numbered known) =
      behind_is ∙ ap (λ k. cuts_past end.at (map numbered k)) same in
      let last : map numbered left ≡ cuts_past next.start (map numbered known) =
      left_is ∙ ap (λ k. cuts_past next.start (map numbered k)) same in
      next-among l h (map numbered known) more rising chunk (numbered end) is_whole (map numbered behind)
      (map numbered (take (length known - length behind) known)) next
      (map numbered (drop (total - length left) items))
      (subst (λ a. IsEndAmong l h a is_whole (numbered end))
      (ahead_is ∙ ap (λ k. cuts_past h.told (map numbered k)) same) ends) whole there
      (split-cuts known behind end.at there) some chunk_is
      (next_is ∙ ap (λ k. start_among_known l h (numbered end) (map numbered behind)
      (map numbered (take (length k - length behind) k))) same)
      (ap (λ n. map numbered (drop (n - length left) items)) total_is ∙ left-cuts items left passed next.start few last)

-- no cut is known behind the end of the chunk that the known ones have
pub none-numbered : (xs : List given.Cut) (empty : Bool) → empty ≡ (length xs == 0) → empty ≡ true
    → map numbered xs ≡ []
none-numbered [] empty is none = refl
none-numbered (x ∷ xs) empty is none = absurd (let long : suc (length xs) ≡ 0 = eqb-true _ _ (sym is ∙ none) in
    omega arith)

pub open-last : (l : Limits) (h : Here) (known ahead behind : List Cut) (end : Cut) (is_whole : Bool)
    → ahead ≡ cuts_past h.told known → IsEndAmong l h ahead is_whole end
    → behind ≡ cuts_past end.at known → behind ≡ [] → IsOpen l h known
open-last l h known ahead behind end is_whole ahead_is e behind_is none =
    let there : end ≡ end_of l h e.first e.known =
    e.ends [] (λ _. refl) ∙ ap (end_of l h e.first) (append-nil e.known) in
    inr (subst (EndsLast l h known) (sym e.are ∙ ahead_is) (ap (λ (c : Cut). cuts_past c.at known) (sym there)
    ∙ sym behind_is ∙ none))
