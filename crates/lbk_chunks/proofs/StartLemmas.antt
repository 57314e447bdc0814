-- Where the next chunk starts.
use Rattle.std.proofs.Common.{◌≡◌, ℕ, ◌-◌, ◌*◌, ◌/◌, ◌<◌, ◌≤◌, ◌⊎◌, ⊎_elim, inl, inr, ◌&&◌, Bool, true, false, cond, min, nat_le, nat_lt, List, [], ◌∷◌, Option, Some, None, refl, sym, ap, subst, ◌∙◌, arith}
use Rattle.std.specs.Prelude.{find}
use Rattle.std.proofs.lemmas.Bool.{cases_lt}
use Rattle.std.proofs.lemmas.Bool.Decides.{nat_tests}
use Rattle.lbk_chunks.specs.declared.chunk.Limits.{Limits}
use Rattle.lbk_chunks.specs.declared.cut.Cut.{Cut}
use Rattle.lbk_chunks.specs.declared.chunk.Here.{Here}
use Rattle.lbk_chunks.specs.Chunks.{after, cuts_past, fits, may_start, start_among, start_at, start_before}
use Rattle.lbk_chunks.specs.Coming.{AreCutsPast, IsCutOf, IsStanding}
use Rattle.lbk_chunks.proofs.CutLemmas.{past-past, past-rising}

and-false : (a : Bool) → (a && false) ≡ false
and-false true = refl
and-false false = refl

-- none is found where none may start a chunk
find-not : (p : Cut → Bool) (c : Cut) (cs : List Cut) → p c ≡ false → find p (c ∷ cs) ≡ find p cs
find-not p c cs is = ap (λ b. cond b (Some c) (find p cs)) is

pub find-here : (p : Cut → Bool) (c : Cut) (cs : List Cut) → p c ≡ true → find p (c ∷ cs) ≡ Some c
find-here p c cs is = ap (λ b. cond b (Some c) (find p cs)) is

module _ (l : Limits) (h : Here) (end next : Cut) where
  -- a cut at the end or past it
  not-behind : (c : Cut) → end.at ≤ c.at → may_start l h end next c ≡ false
  not-behind c past = ap (λ b. b && (nat_le (end.at - c.at) l.overlap && (nat_le (2 * (end.at - c.at)) (end.at - h.start)
      && fits l (record { start = c.at; words = c.words; told = end.at }) next))) (let no : nat_lt c.at end.at ≡ false = grind (arith, nat_tests) in no)

  pub find-past : (from : ℕ) (cs : List Cut) → end.at ≤ from → AreCutsPast from cs → find (may_start l h end next) cs ≡ None
  find-past from [] below past = refl
  find-past from (c ∷ cs) below past =
      find-not (may_start l h end next) c cs (not-behind c (omega (arith, past.0))) ∙ find-past c.at cs (omega (arith, past.0)) past.1

  pub find-all_past : (at : ℕ) (all : List Cut) (c : Cut) (cs : List Cut) → AreCutsPast at all → all ≡ c ∷ cs → end.at ≤ c.at → find (may_start l h end next) all ≡ None
  find-all_past at all c cs rising joined past =
      let behind = subst (AreCutsPast at) joined rising in
      ap (find (may_start l h end next)) joined ∙ find-not (may_start l h end next) c cs (not-behind c past) ∙ find-past c.at cs past behind.1

  -- nothing may be said twice
  none-twice : (c : Cut) (b : Bool) → nat_lt c.at end.at ≡ b → l.overlap ≡ 0
      → (b && (nat_le (end.at - c.at) l.overlap && (nat_le (2 * (end.at - c.at)) (end.at - h.start)
      && fits l (record { start = c.at; words = c.words; told = end.at }) next))) ≡ false
  none-twice c false is none = refl
  none-twice c true is none =
      ap (λ b. b && (nat_le (2 * (end.at - c.at)) (end.at - h.start) && fits l (record { start = c.at; words = c.words; told = end.at }) next))
      (let no : nat_le (end.at - c.at) l.overlap ≡ false = grind (arith, nat_tests) in no)

  pub find-twice : (cs : List Cut) → l.overlap ≡ 0 → find (may_start l h end next) cs ≡ None
  find-twice [] none = refl
  find-twice (c ∷ cs) none = find-not (may_start l h end next) c cs (none-twice c (nat_lt c.at end.at) refl none) ∙ find-twice cs none

  pub find-on : (c : Cut) (cs all : List Cut) → may_start l h end next c ≡ false → find (may_start l h end next) all ≡ find (may_start l h end next) (c ∷ cs)
      → find (may_start l h end next) all ≡ find (may_start l h end next) cs
  find-on c cs all not so_far = so_far ∙ find-not (may_start l h end next) c cs not

-- with no overlap the next chunk starts at the end
pub after-apart : (l : Limits) (cuts : List Cut) (h : Here) (end : Cut) (behind : List Cut) → l.overlap ≡ 0 → start_before l cuts h end behind ≡ start_at end end.at
after-apart l cuts h end [] none = refl
after-apart l cuts h end (next ∷ more) none = ap (start_among end) (find-twice l h end next (cuts_past h.start cuts) none)

pub after-last : (l : Limits) (cuts : List Cut) (h : Here) (end : Cut) → cuts_past end.at cuts ≡ [] → after l cuts h end ≡ start_at end end.at
after-last l cuts h end none = ap (start_before l cuts h end) none

-- and else at the first cut that may start one
pub after-found : (l : Limits) (cuts more : List Cut) (h : Here) (end next : Cut) (found : Option Cut) → cuts_past end.at cuts ≡ next ∷ more
    → find (may_start l h end next) (cuts_past h.start cuts) ≡ found → after l cuts h end ≡ start_among end found
after-found l cuts more h end next found behind is = ap (start_before l cuts h end) behind ∙ ap (start_among end) is

-- a cut that stands too far before the end starts no chunk
pub too-early : (l : Limits) (h : Here) (end next c : Cut) → (l.overlap < end.at - c.at) ⊎ (end.at - h.start < 2 * (end.at - c.at)) → may_start l h end next c ≡ false
too-early l h end next c (inl over) =
    ap (λ b. nat_lt c.at end.at && (b && (nat_le (2 * (end.at - c.at)) (end.at - h.start) && fits l (record { start = c.at; words = c.words; told = end.at }) next)))
    (let no : nat_le (end.at - c.at) l.overlap ≡ false = grind (arith, nat_tests) in no)
    ∙ and-false (nat_lt c.at end.at)
too-early l h end next c (inr half) =
    ap (λ b. nat_lt c.at end.at && (nat_le (end.at - c.at) l.overlap && (b && fits l (record { start = c.at; words = c.words; told = end.at }) next)))
    (let no : nat_le (2 * (end.at - c.at)) (end.at - h.start) ≡ false = grind (arith, nat_tests) in no)
    ∙ ap (λ b. nat_lt c.at end.at && b) (and-false (nat_le (end.at - c.at) l.overlap)) ∙ and-false (nat_lt c.at end.at)

pub is-early : (start end overlap half twice at : ℕ) → half ≡ (end - start) / 2 → twice ≡ min overlap half → start < at → at ≤ end - twice - 1
    → (overlap < end - at) ⊎ (end - start < 2 * (end - at))
is-early start end overlap half twice at is_half is_twice after before =
    ⊎_elim (λ (less : overlap < end - at). inl less) (λ (few : end - at ≤ overlap). inr (omega arith)) (cases_lt overlap (end - at))

-- so the search may begin past those
skip-by : (p : Cut → Bool) (at : ℕ) (c : Cut) (cs : List Cut) (b : Bool) → nat_le c.at at ≡ b → (c.at ≤ at → p c ≡ false) → find p cs ≡ find p (cuts_past at cs)
    → find p (c ∷ cs) ≡ find p (cond b (cuts_past at cs) (c ∷ cs))
skip-by p at c cs true is none more = find-not p c cs (none (grind (arith, nat_tests))) ∙ more
skip-by p at c cs false is none more = refl

find-skip : (p : Cut → Bool) (from at : ℕ) (cs : List Cut) → ((c : Cut) → from < c.at → c.at ≤ at → p c ≡ false) → AreCutsPast from cs → find p cs ≡ find p (cuts_past at cs)
find-skip p from at [] none rising = refl
find-skip p from at (c ∷ cs) none rising =
    skip-by p at c cs (nat_le c.at at) refl (none c rising.0) (find-skip p c.at at cs (λ d past. none d (omega (arith, rising.0, past))) rising.1)

pub find-later : (p : Cut → Bool) (start at : ℕ) (cuts : List Cut) → ((c : Cut) → start < c.at → c.at ≤ at → p c ≡ false) → AreCutsPast 0 cuts → start ≤ at
    → find p (cuts_past start cuts) ≡ find p (cuts_past at cuts)
find-later p start at cuts none rising below =
    find-skip p start at (cuts_past start cuts) none (past-rising 0 start cuts rising) ∙ ap (find p) (past-past start at cuts below)

-- a start at a cut
pub stands : (cuts : List Cut) (here : Here) (c : Cut) (told : ℕ) → here ≡ start_at c told → IsCutOf cuts c → IsStanding cuts here.start here.words
stands cuts here c told is cut = (c, sym (ap (λ (h : Here). h.start) is), sym (ap (λ (h : Here). h.words) is), cut)
