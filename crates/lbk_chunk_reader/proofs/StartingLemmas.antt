-- Where the next chunk starts, and the chunks from there on, among the cuts that are left.
use Rattle.std.proofs.Common.{◌≡◌, ℕ, ◌≤◌, ◌⊎◌, inl, inr, Bool, true, false, cond, nat_le, List, [], ◌∷◌, ◌++◌}
use Rattle.std.proofs.Common.{append_assoc, append-nil, Some, None, refl, sym, ap, ap₂, subst, ◌∙◌, arith}
use Rattle.std.specs.Prelude.{find}
use Rattle.lbk_chunks.specs.declared.chunk.Chunk.{Chunk}
use Rattle.lbk_chunks.specs.declared.chunk.Limits.{Limits}
use Rattle.lbk_chunks.specs.declared.cut.Cut.{Cut}
use Rattle.lbk_chunks.specs.declared.chunk.Here.{Here}
use Rattle.lbk_chunks.specs.Chunks.{AreChunks, after, chunk_to, cuts_past, end_of, may_start, start_among, start_at}
use Rattle.lbk_chunks.specs.Chunks.{start_before}
use Rattle.lbk_chunks.specs.Cuts.{AreCutsPast}
use Rattle.lbk_chunks.proofs.CutLemmas.{cuts-from, past-all, past-past, past-rising}
use Rattle.lbk_chunks.proofs.LawLemmas.{after-told, end-from, start-by, start-told}
use Rattle.lbk_chunks.proofs.StartLemmas.{find-past, find-twice}
use Rattle.lbk_chunk_reader.specs.Choosing.{IsEndAmong, IsNextChunk, start_among_known}

-- the list has an element
abbrev pub AreSome : List Cut → Type 0
AreSome [] = ⊥
AreSome (c ∷ cs) = Unit {0}

-- with no overlap the next chunk starts at the end
pub known-apart : (l : Limits) (h : Here) (end : Cut) (behind told : List Cut) → l.overlap ≡ 0
    → start_among_known l h end behind told ≡ start_at end end.at
known-apart l h end [] told none = refl
known-apart l h end (next ∷ more) told none = ap (start_among end) (find-twice l h end next told none)

-- those past a byte, of some cuts and more
pub past-more : (at : ℕ) (xs ys : List Cut) → AreSome (cuts_past at xs) ⊎ (ys ≡ [])
    → cuts_past at (xs ++ ys) ≡ cuts_past at xs ++ ys
past-more at xs ys (inr none) =
    ap (λ l. cuts_past at (xs ++ l)) none ∙ ap (cuts_past at) (append-nil xs) ∙ sym (append-nil (cuts_past at xs))
    ∙ ap (λ l. cuts_past at xs ++ l) (sym none)
past-more at [] ys (inl some) = absurd some
past-more at (c ∷ cs) ys (inl some) = by (nat_le c.at at) (λ s. past-more at cs ys (inl s)) some
  where
    by : (b : Bool) → (AreSome (cuts_past at cs) → cuts_past at (cs ++ ys) ≡ cuts_past at cs ++ ys)
        → AreSome (cond b (cuts_past at cs) (c ∷ cs))
        → cond b (cuts_past at (cs ++ ys)) (c ∷ (cs ++ ys)) ≡ cond b (cuts_past at cs) (c ∷ cs) ++ ys
    by true rest some = rest some
    by false rest some = refl

some-earlier : (at to : ℕ) (cs : List Cut) → at ≤ to → AreSome (cuts_past to cs) → AreSome (cuts_past at cs)
some-earlier at to cs below some = by (cuts_past at cs) refl
  where
    by : (l : List Cut) → cuts_past at cs ≡ l → AreSome l
    by [] is = subst AreSome (sym (past-past at to cs below) ∙ ap (cuts_past to) is) some
    by (c ∷ ds) is = tt

find-front : (p : Cut → Bool) (xs ys : List Cut) → find p ys ≡ None → find p (xs ++ ys) ≡ find p xs
find-front p [] ys none = none
find-front p (x ∷ xs) ys none = ap (cond (p x) (Some x)) (find-front p xs ys none)

module _ (l : Limits) (h : Here) (known more : List Cut) (rising : AreCutsPast h.start (known ++ more)) where
  -- the next start is the one that all cuts have
  known-start : (end : Cut) (behind told : List Cut) → behind ≡ cuts_past end.at known → known ≡ told ++ behind
      → AreSome behind ⊎ (more ≡ [])
      → start_among_known l h end behind told ≡ after l (known ++ more) h end
  known-start end [] told is split (inl some) = absurd some
  known-start end [] told is split (inr none) =
      sym (ap (start_before l (known ++ more) h end) (past-more end.at known more (inr none)
      ∙ ap₂ (λ a b. a ++ b) (sym is) none))
  known-start end (next ∷ others) told is split some =
      let behind = next ∷ others in
      let p = may_start l h end next in
      let whole : cuts_past end.at (known ++ more) ≡ behind ++ more =
      past-more end.at known more (inl (subst AreSome is tt)) ∙ ap (λ l. l ++ more) (sym is) in
      let none : find p (behind ++ more) ≡ None =
      find-past l h end next end.at (behind ++ more) (omega arith)
      (subst (AreCutsPast end.at) whole (past-rising h.start end.at (known ++ more) rising)) in
      let parts : known ++ more ≡ told ++ (behind ++ more) = ap (λ l. l ++ more) split
      ∙ append_assoc told behind more in
      let found : find p (cuts_past h.start (known ++ more)) ≡ find p told =
      ap (find p) (past-all h.start h.start (known ++ more) (omega arith) rising ∙ parts)
      ∙ find-front p told (behind ++ more) none in
      sym (ap (start_before l (known ++ more) h end) whole ∙ ap (start_among end) found)

  -- a chunk that the known cuts settle
  pub next-among : (chunk : Chunk) (end : Cut) (is_whole : Bool) (behind told : List Cut) (next : Here)
      (left : List Cut)
      → IsEndAmong l h (cuts_past h.told known) is_whole end → (is_whole ≡ true → more ≡ [])
      → behind ≡ cuts_past end.at known → known ≡ told ++ behind → AreSome behind ⊎ (is_whole ≡ true)
      → chunk ≡ chunk_to l h end → next ≡ start_among_known l h end behind told → left ≡ cuts_past next.start known
      → IsNextChunk l h (known ++ more) chunk next (left ++ more)
  next-among chunk end is_whole behind told next left e whole is split some chunk_is next_is left_is =
      let some_or_none = by some in
      let there : end ≡ end_of l h e.first (e.known ++ more) = e.ends more whole in
      let starts : next ≡ after l (known ++ more) h end = next_is ∙ known-start end behind told is split some_or_none in
      let told : next.start ≤ end.at = subst (λ (x : Here). x.start ≤ end.at) (sym starts)
      (start-told l (known ++ more) h end (cuts_past end.at (known ++ more))) in
      record {
        first = e.first;
        more = e.known ++ more;
        are = past-more h.told known more (inl (subst AreSome (sym e.are) tt)) ∙ ap (λ l. l ++ more) e.are;
        is = chunk_is ∙ ap (chunk_to l h) there;
        goes_on = starts ∙ ap (after l (known ++ more) h) there;
        leaves = ap (λ l. l ++ more) left_is ∙ sym (past-more next.start known more (earlier told some_or_none));
      }
    where
      by : AreSome behind ⊎ (is_whole ≡ true) → AreSome behind ⊎ (more ≡ [])
      by (inl s) = inl s
      by (inr w) = inr (whole w)

      earlier : next.start ≤ end.at → AreSome behind ⊎ (more ≡ []) → AreSome (cuts_past next.start known) ⊎ (more ≡ [])
      earlier below (inl s) = inl (some-earlier next.start end.at known below (subst AreSome is s))
      earlier below (inr none) = inr none

-- Chunks among the cuts that are left

same-after : (l : Limits) (at : ℕ) (cuts : List Cut) (h : Here) (end : Cut) → at ≤ h.start → at ≤ end.at
    → after l (cuts_past at cuts) h end ≡ after l cuts h end
same-after l at cuts h end first second =
    ap (start_before l (cuts_past at cuts) h end) (past-past at end.at cuts second) ∙ by (cuts_past end.at cuts)
  where
    by : (behind : List Cut) → start_before l (cuts_past at cuts) h end behind ≡ start_before l cuts h end behind
    by [] = refl
    by (next ∷ more) = ap (λ l0. start_among end (find (may_start l h end next) l0)) (past-past at h.start cuts first)

pub left-chunks : (l : Limits) (at : ℕ) (cuts : List Cut) (h : Here) (chunks : List Chunk) → AreCutsPast 0 cuts
    → at ≤ h.start → h.start ≤ h.told
    → AreChunks l (cuts_past at cuts) h chunks → AreChunks l cuts h chunks
left-chunks l at cuts h [] rising first told are = sym (past-past at h.told cuts (omega arith)) ∙ are
left-chunks l at cuts h (c ∷ cs) rising first told are =
    let joined = sym (past-past at h.told cuts (omega arith)) ∙ are.2 in
    let end = end_of l h are.0 are.1 in
    let past = subst (AreCutsPast h.told) joined (past-rising 0 h.told cuts rising) in
    let ends = end-from l h are.0 are.1 past.1 in
    let same = same-after l at cuts h end first (omega (arith, past.0, ends)) in
    let next = after l cuts h end in
    let begins = start-by l cuts h end (cuts_past end.at cuts) rising (omega (arith, past.0, ends)) in
    let told_then = after-told l cuts h end in
    let below = start-told l cuts h end (cuts_past end.at cuts) in (
      are.0,
      are.1,
      joined,
      are.3,
      left-chunks l at cuts next cs rising (omega (arith, begins)) (omega (arith, told_then, below))
          (subst (λ x. AreChunks l (cuts_past at cuts) x cs) same are.4),
    )

pub next-chunks : (l : Limits) (h : Here) (cuts : List Cut) (chunk : Chunk) (next : Here) (left : List Cut)
    (later : List Chunk) → AreCutsPast h.start cuts → h.start ≤ h.told
    → IsNextChunk l h cuts chunk next left → AreChunks l left next later → AreChunks l cuts h (chunk ∷ later)
next-chunks l h cuts chunk next left later rising told n are =
    let end = end_of l h n.first n.more in
    let then = after l cuts h end in
    let below = start-told l cuts h end (cuts_past end.at cuts) in
    let here : AreChunks l (cuts_past then.start cuts) then later =
    subst (λ (x : Here). AreChunks l (cuts_past x.start cuts) x later) n.goes_on
    (subst (λ ds. AreChunks l ds next later) n.leaves are) in (
      n.first,
      n.more,
      n.are,
      n.is,
      left-chunks l then.start cuts then later (cuts-from 0 h.start cuts (omega arith) rising) (omega arith)
          (omega (arith, after-told l cuts h end, below)) here,
    )

-- the next chunk does not start behind what was told, nor behind this one's end
pub next-told : (l : Limits) (h : Here) (cuts : List Cut) (chunk : Chunk) (next : Here) (left : List Cut)
    (n : IsNextChunk l h cuts chunk next left)
    → (next.start ≤ next.told) × (next.start ≤ (end_of l h n.first n.more).at)
next-told l h cuts chunk next left n =
    let end = end_of l h n.first n.more in
    let below = start-told l cuts h end (cuts_past end.at cuts) in
    subst (λ (x : Here). (x.start ≤ x.told) × (x.start ≤ end.at)) (sym n.goes_on)
    (omega (arith, after-told l cuts h end, below), below)
