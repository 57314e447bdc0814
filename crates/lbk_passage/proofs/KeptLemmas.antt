-- Breaks that were found and not yet given.
use Rattle.std.proofs.Common.{◌≡◌, ℕ, ◌+◌, ◌-◌, ◌≤◌, ◌<◌, min, false, List, [], ◌∷◌, ◌++◌, length, map, take, drop, get_or, append_assoc, ◌⊎◌, ⊎_elim, refl, sym, ap, subst, ◌∙◌, arith}
use Rattle.std.specs.Str.{chars, IsUtf8}
use Rattle.std.proofs.lemmas.List.{get_or-drop, length-drop, length-take, map-append, map_more, take_at}
use Rattle.std.proofs.Math.Seq.{drop-append_seam, drop-drop, take-add}
use Rattle.lbk_rules.specs.declared.Break.{Break}
use Rattle.lbk_rules.specs.declared.Cell.{Cell}
use Rattle.lbk_values.specs.declared.profile.Profile.{Profile}
use Rattle.lbk_rules.specs.Breaks.{breaks}
use Rattle.lbk_bytes.specs.declared.raw_break.RawBreak.{RawBreak}
use Rattle.lbk_bytes.specs.Order.{AreBreaks, IsBreak, no_break}
use Rattle.lbk_bytes.specs.Shown.{given_in, shown}
use Rattle.lbk_bytes.proofs.ReachedLemmas.{given-many}
use Rattle.lbk_passage.specs.declared.found.Progress.{Progress}
use Rattle.lbk_passage.specs.declared.kept.Kept.{Kept}
use Rattle.lbk_passage.specs.Found.{FindsNext, IsKept, held_in, left_after, skipped, to_give}
use Rattle.lbk_passage.proofs.FoundLemmas.{IsFound-start, rest-on}

-- a list of no entries
no-length : (l : List Break) → length l ≡ 0 → l ≡ []
no-length [] none = refl
no-length (b ∷ bs) none = absurd (omega (arith, none))

-- those in the front of a block, and those behind them
pub given-split : (block : List RawBreak) (next some left : ℕ) → some ≤ left
    → given_in (drop next block) left ≡ given_in (drop next block) some ++ given_in (drop (next + some) block) (left - some)
given-split block next some left few =
    let whole : some + (left - some) ≡ left = omega (arith, few) in
    let behind : drop some (drop next block) ≡ drop (next + some) block = drop-drop some next block in
    ap (given_in (drop next block)) (sym whole)
    ∙ ap (map shown) (take-add some (left - some) (drop next block))
    ∙ map-append shown (take some (drop next block)) (take (left - some) (drop some (drop next block)))
    ∙ ap (λ l. given_in (drop next block) some ++ given_in l (left - some)) behind

-- the first behind a place is the one that stands there
pub first-behind : (block : List RawBreak) (next : ℕ) → get_or (drop next block) 0 no_break ≡ get_or block next no_break
first-behind block next =
    get_or-drop next block 0 no_break ∙ ap (λ n. get_or block n no_break) (let e : next + 0 ≡ next = omega arith in e)

pub one-given : (block : List RawBreak) (next : ℕ) → next < length block → given_in (drop next block) 1 ≡ shown (get_or block next no_break) ∷ []
one-given block next within =
    map_more shown (drop next block) 0 no_break (omega (arith, within, length-drop next block))
    ∙ ap (λ r. shown r ∷ []) (first-behind block next)

-- behind some of them there are breaks, too
each-behind : (block : List RawBreak) (next some left : ℕ) → AreBreaks (drop next block) left → AreBreaks (drop (next + some) block) (left - some)
each-behind block next some left each k below =
    let same : get_or (drop next block) (some + k) no_break ≡ get_or (drop (next + some) block) k no_break =
    get_or-drop next block (some + k) no_break
    ∙ ap (λ n. get_or block n no_break) (let e : next + (some + k) ≡ next + some + k = omega arith in e)
    ∙ sym (get_or-drop (next + some) block k no_break) in
    subst IsBreak same (each (some + k) (omega (arith, below)))

-- the block of breaks holds none, and none was found
pub IsKept-start : (profile : Profile) (cell : ℕ → Cell) (text : List ℕ) (block : List RawBreak) → length block ≡ 64 → IsUtf8 text
    → IsKept profile cell text (record { progress = record { state = record { count = 0; row = 0; at = 0 }; ended = false }; block = block; next = 0; left = 0 })
IsKept-start profile cell text block size utf8 = record {
  found = IsFound-start profile cell text utf8;
  size = size;
  within = omega arith;
  each = λ k below. absurd (omega (arith, below));
  given = (0, refl);
}

module _ {profile : Profile} {cell : ℕ → Cell} {text : List ℕ} {kept : Kept} (is : IsKept profile cell text kept) where
  -- some of the block are given
  module _ (some : ℕ) (few : some ≤ kept.left) where
    abbrev pub front : List Break
    front = given_in (drop kept.next kept.block) some

    pub skipped-joined : to_give profile cell text kept ≡ given_in (drop kept.next kept.block) some ++ to_give profile cell text (skipped some kept)
    skipped-joined =
        ap (λ (l : List Break). l ++ left_after profile cell text kept.progress) (given-split kept.block kept.next some kept.left few)
        ∙ append_assoc front (held_in (skipped some kept)) (left_after profile cell text kept.progress)

    pub skipped-many : length (given_in (drop kept.next kept.block) some) ≡ some
    skipped-many = given-many (drop kept.next kept.block) some (omega (arith, few, is.within, is.size, length-drop kept.next kept.block))

    pub skipped-front : given_in (drop kept.next kept.block) some ≡ take some (to_give profile cell text kept)
    skipped-front = sym (ap (take some) skipped-joined ∙ take_at front (to_give profile cell text (skipped some kept)) some skipped-many)

    pub skipped-rest : to_give profile cell text (skipped some kept) ≡ drop some (to_give profile cell text kept)
    skipped-rest =
        sym (ap (drop some) skipped-joined ∙ ap (λ n. drop n (front ++ to_give profile cell text (skipped some kept))) (sym skipped-many)
        ∙ drop-append_seam front (to_give profile cell text (skipped some kept)))

    pub IsKept-skipped : IsKept profile cell text (skipped some kept)
    IsKept-skipped = record {
      found = is.found;
      size = is.size;
      within = omega (arith, few, is.within);
      each = each-behind kept.block kept.next some kept.left is.each;
      given = (is.given.0 + some, skipped-rest ∙ ap (drop some) is.given.1 ∙ drop-drop some is.given.0 (breaks profile cell (chars text)));
    }

  -- the next breaks are found, where the block holds none
  module _ (none : kept.left ≡ 0) {room : ℕ} {to : Progress} {block : List RawBreak} (f : FindsNext profile cell text kept.progress to room block)
      (size : length block ≡ 64) (few : to.state.count - kept.progress.state.count ≤ 64) where
    abbrev pub filled : Kept
    filled = record { progress = to; block = block; next = 0; left = to.state.count - kept.progress.state.count }

    pub filled-same : to_give profile cell text filled ≡ to_give profile cell text kept
    filled-same =
        rest-on f
        ∙ ap (λ n. given_in (drop kept.next kept.block) n ++ left_after profile cell text kept.progress) (sym none)

    pub IsKept-filled : IsKept profile cell text filled
    IsKept-filled = record {
      found = f.found;
      size = size;
      within = omega (arith, few);
      each = f.breaks;
      given = (is.given.0, filled-same ∙ is.given.1);
    }

    pub filled-none : 0 < room → to.state.count - kept.progress.state.count ≡ 0
        → to_give profile cell text filled ≡ []
    filled-none some no_more =
        let left = left_after profile cell text kept.progress in
        let no : length left ≡ 0 = omega (arith, some, no_more, f.count) in
        filled-same ∙ ap (λ n. given_in (drop kept.next kept.block) n ++ left) none ∙ no-length left no

-- no more was given than there was room for
pub fills : (to_come : List Break) (block : List Break) (count : ℕ) → count ≤ length block → take count block ≡ take count to_come
    → (count ≡ length block) ⊎ (drop count to_come ≡ []) → count ≡ min (length block) (length to_come)
fills to_come block count within front full =
    let given : count ≤ length to_come = omega (arith, ap length front, length-take count block, length-take count to_come, within) in
    ⊎_elim (λ (all : count ≡ length block). omega (arith, all, given))
    (λ (none : drop count to_come ≡ []). (let no = ap length none in omega (arith, no, given, within, length-drop count to_come))) full
