-- Blocks of cuts.
use Rattle.std.proofs.Common.{◌≡◌, ℕ, zero, suc, ◌+◌, ◌-◌, ◌++◌, ◌==◌, ◌&&◌, nat_le, nat_lt, ◌<◌, ◌≤◌, ◌⊎◌, ⊎_elim, inl, inr, append_assoc, Bool, true, false, cond, List, [], ◌∷◌, Option, Some, drop, length, take, slice_index_or, refl, sym, ap, ap₂, subst, ◌∙◌, arith}
use Rattle.std.proofs.lemmas.Bool.{cases_lt}
use Rattle.std.proofs.lemmas.Bool.Decides.{nat_tests}
use Rattle.std.proofs.lemmas.List.{get_or-take, length-take-le, take-append-drop}
use Rattle.std.proofs.Math.Seq.{drop-cons}
use Rattle.lbk_rules.specs.declared.Cell.{Cell}
use Rattle.lbk_rules.specs.declared.neighbours.Neighbours.{Neighbours}
use Rattle.lbk_chunks.specs.declared.cut.Cut.{Cut}
use Rattle.lbk_chunks.specs.declared.cut.Place.{Place}
use Rattle.lbk_chunks.specs.declared.cursor.Filled.{Filled}
use Rattle.lbk_chunks.specs.declared.cut_block.CutBlock.{CutBlock}
use Rattle.lbk_chunks.specs.declared.cut.Mark.{Mark}
use Rattle.lbk_chunks.specs.Chunks.{cuts_past}
use Rattle.lbk_chunks.specs.Coming.{AreCutsPast, AreFirst, IsAhead, IsBlock, IsMark, early_in, last_in, no_cut}
use Rattle.lbk_chunks.proofs.CutLemmas.{IsSplit, cut-one, first-later, none-past, split}

-- some elements up to one of them
up-to : (k n : ℕ) (xs : List Cut) → k < n → n ≤ length xs
    → take n xs ≡ take k (take n xs) ++ slice_index_or xs k no_cut ∷ drop (k + 1) (take n xs)
up-to k n xs below room =
    let size = length-take-le n xs room in
    sym (take-append-drop k (take n xs))
    ∙ ap (λ l. take k (take n xs) ++ l) (drop-cons (take n xs) k no_cut (omega (arith, size, below))
    ∙ ap₂ (λ (c : Cut) (m : ℕ). c ∷ drop m (take n xs)) (get_or-take n xs k no_cut below) (let e : suc k ≡ k + 1 = omega arith in e))

drop-all : (n : ℕ) (xs : List Cut) → drop n (take n xs) ≡ []
drop-all zero xs = refl
drop-all (suc n) [] = refl
drop-all (suc n) (x ∷ xs) = drop-all n xs

module _ (cuts : List Cut) (from count : ℕ) (out rest : List Cut) (rising : AreCutsPast 0 cuts) (joined : cuts_past from cuts ≡ take count out ++ rest) where
  -- one of the cuts in front of a block
  pub split-at : (k : ℕ) → k < count → count ≤ length out → IsSplit cuts from (slice_index_or out k no_cut) (drop (k + 1) (take count out) ++ rest)
  split-at k below room =
      split (take k (take count out)) cuts from (slice_index_or out k no_cut) (drop (k + 1) (take count out) ++ rest) rising
      (joined ∙ ap (λ l. l ++ rest) (up-to k count out below room)
      ∙ append_assoc (take k (take count out)) (slice_index_or out k no_cut ∷ drop (k + 1) (take count out)) rest)

  -- the last of them
  pub split-last : 0 < count → count ≤ length out → IsSplit cuts from (slice_index_or out (count - 1) no_cut) rest
  split-last some room =
      let s = split-at (count - 1) (omega arith) room in
      let none : drop (count - 1 + 1) (take count out) ≡ [] =
      ap (λ n. drop n (take count out)) (let e : count - 1 + 1 ≡ count = omega arith in e) ∙ drop-all count out in
      record { past = s.past; cut = s.cut; behind = ap (λ l. l ++ rest) (sym none) ∙ s.behind }

  -- the first past a byte
  first-there : (k at : ℕ) → k < count → count ≤ length out → from ≤ at → at < (slice_index_or out k no_cut).at
      → (k ≡ 0) ⊎ ((slice_index_or out (k - 1) no_cut).at ≤ at)
      → cuts_past at cuts ≡ slice_index_or out k no_cut ∷ cuts_past (slice_index_or out k no_cut).at cuts
  first-there zero at below room after past before =
      let c = slice_index_or out 0 no_cut in
      let s = split-at 0 below room in
      let first : cuts_past from cuts ≡ c ∷ (drop 1 (take count out) ++ rest) = joined ∙ ap (λ l. l ++ rest) (up-to 0 count out below room) in
      first-later cuts from at c (drop 1 (take count out) ++ rest) after past first ∙ ap (λ l. c ∷ l) s.behind
  first-there (suc k) at below room after past (inl first) = absurd (omega (arith, first))
  first-there (suc k) at below room after past (inr before) =
      let d = slice_index_or out k no_cut in
      let c = slice_index_or out (suc k) no_cut in
      let e : k + 1 ≡ suc k = omega arith in
      let earlier : d.at ≤ at = subst (λ n. (slice_index_or out n no_cut).at ≤ at) (let e : suc k - 1 ≡ k = omega arith in e) before in
      let s = split-at k (omega arith) room in
      let t = split-at (suc k) below room in
      let size = length-take-le count out room in
      let next : drop (k + 1) (take count out) ≡ c ∷ drop (suc k + 1) (take count out) =
      ap (λ n. drop n (take count out)) e ∙ drop-cons (take count out) (suc k) no_cut (omega (arith, size, below))
      ∙ ap₂ (λ (x : Cut) (m : ℕ). x ∷ drop m (take count out)) (get_or-take count out (suc k) no_cut below) (let f : suc (suc k) ≡ suc k + 1 = omega arith in f) in
      first-later cuts d.at at c (drop (suc k + 1) (take count out) ++ rest) earlier past (sym s.behind ∙ ap (λ l. l ++ rest) next)
      ∙ ap (λ l. c ∷ l) t.behind

  pub first-in : (k at : ℕ) → k < count → count ≤ length out → from ≤ at → at < (slice_index_or out k no_cut).at
      → (k ≡ 0) ⊎ ((slice_index_or out (k - 1) no_cut).at ≤ at)
      → cuts_past at cuts ≡ slice_index_or out k no_cut ∷ cuts_past (slice_index_or out k no_cut).at cuts
  first-in k at below room after past before = first-there k at below room after past before

-- where a block ends
end-some : (count from : ℕ) (out : List Cut) → 0 < count → cond (count == 0) from (slice_index_or out (count - 1) no_cut).at ≡ (slice_index_or out (count - 1) no_cut).at
end-some count from out some = let no : (count == 0) ≡ false = grind (arith, nat_tests) in ap (λ b. cond b from (slice_index_or out (count - 1) no_cut).at) no

module _ (cell : ℕ → Cell) (kinds : List ℕ) (pairs : Neighbours) (text : List ℕ) (cuts : List Cut) (rising : AreCutsPast 0 cuts) where
  -- the place behind the last of some cuts
  pub mark-behind : (mark behind : Mark) (room : ℕ) (out : List Cut) (filled : Filled) → IsMark cell kinds pairs text cuts mark
      → AreFirst cell kinds pairs text (cuts_past mark.at cuts) room out filled → 0 < filled.count → filled.count ≤ length out
      → behind.place ≡ filled.place → behind.at ≡ (slice_index_or out (filled.count - 1) no_cut).at
      → filled.place.words ≡ (slice_index_or out (filled.count - 1) no_cut).words
      → IsMark cell kinds pairs text cuts behind
  mark-behind mark behind room out filled is first some within same_place same_at counted =
      let last = slice_index_or out (filled.count - 1) no_cut in
      let s = split-last cuts mark.at filled.count out first.rest rising first.joined some within in
      record {
        ahead = subst (λ (p : Place). IsAhead cell kinds pairs text p (cuts_past behind.at cuts)) (sym same_place)
            (subst (λ n. IsAhead cell kinds pairs text filled.place (cuts_past n cuts)) (sym same_at) (subst (IsAhead cell kinds pairs text filled.place) s.behind first.onward));
        counted = λ c same cut. ap (λ (p : Place). p.words) same_place ∙ counted ∙ ap (λ (d : Cut). d.words) (cut-one cuts last c s.cut cut (sym (same ∙ same_at)));
      }

  fits-block : (block : CutBlock) → block.count ≤ length block.cuts
  fits-block block = omega (arith, block.few, block.most, block.size)

  -- a block that was read
  pub block-read : (block : CutBlock) (filled : Filled) → IsMark cell kinds pairs text cuts block.before
      → AreFirst cell kinds pairs text (cuts_past block.before.at cuts) block.room block.cuts filled → block.count ≡ filled.count → block.behind.place ≡ filled.place
      → (0 < filled.count → filled.count ≡ block.room → filled.place.words ≡ (slice_index_or block.cuts (filled.count - 1) no_cut).words)
      → IsBlock cell kinds pairs text cuts block
  block-read block filled is first same_count same_place counted = record {
    before = is;
    rest = first.rest;
    joined = first.joined ∙ ap (λ n. take n block.cuts ++ first.rest) (sym same_count);
    all = λ few. first.all (omega (arith, same_count, few));
    behind = λ full. (
        let some : 0 < block.count = omega (arith, full, block.some) in
        mark-behind block.before block.behind block.room block.cuts filled is first (omega (arith, some, same_count)) (omega (arith, fits-block block, same_count)) same_place
        (block.end ∙ end-some block.count block.before.at block.cuts some ∙ ap (λ n. (slice_index_or block.cuts (n - 1) no_cut).at) same_count)
        (counted (omega (arith, some, same_count)) (omega (arith, full, same_count))));
  }

  -- the first past a byte is in the block
  pub block-first : (block : CutBlock) (k at : ℕ) → IsBlock cell kinds pairs text cuts block → k < block.count
      → block.before.at ≤ at → at < (slice_index_or block.cuts k no_cut).at → (k ≡ 0) ⊎ ((slice_index_or block.cuts (k - 1) no_cut).at ≤ at)
      → cuts_past at cuts ≡ slice_index_or block.cuts k no_cut ∷ cuts_past (slice_index_or block.cuts k no_cut).at cuts
  block-first block k at is below after past before =
      first-in cuts block.before.at block.count block.cuts is.rest rising is.joined k at below (fits-block block) after past before

  -- and the first past one of them is the next
  pub block-next : (block : CutBlock) (k : ℕ) (last : Cut) → IsBlock cell kinds pairs text cuts block → 0 < k → k < block.count
      → (slice_index_or block.cuts (k - 1) no_cut).at ≡ last.at → last.at < (slice_index_or block.cuts k no_cut).at
      → cuts_past last.at cuts ≡ slice_index_or block.cuts k no_cut ∷ cuts_past (slice_index_or block.cuts k no_cut).at cuts
  block-next block k last is some below same past =
      let s = split-at cuts block.before.at block.count block.cuts is.rest rising is.joined (k - 1) (omega arith) (fits-block block) in
      block-first block k last.at is below (omega (arith, s.past, same)) past (inr (omega arith))

  -- the text has no cut behind a block that is not full
  none-by : (block : CutBlock) (at : ℕ) (b : Bool) → (block.count == 0) ≡ b → IsBlock cell kinds pairs text cuts block
      → block.count < block.room → block.behind.at ≤ at → cuts_past at cuts ≡ []
  none-by block at true none is few past =
      let zero_count : block.count ≡ 0 = grind (arith, nat_tests) in
      let there : block.behind.at ≡ block.before.at = block.end ∙ ap (λ b. cond b block.before.at (slice_index_or block.cuts (block.count - 1) no_cut).at) none in
      none-past cuts block.before.at at (omega (arith, there, past))
      (is.joined ∙ ap₂ (λ (n : ℕ) (l : List Cut). take n block.cuts ++ l) zero_count (is.all few))
  none-by block at false some is few past =
      let one : 0 < block.count = grind (arith, nat_tests) in
      let last = slice_index_or block.cuts (block.count - 1) no_cut in
      let s = split-last cuts block.before.at block.count block.cuts is.rest rising is.joined one (fits-block block) in
      let there : block.behind.at ≡ last.at = block.end ∙ end-some block.count block.before.at block.cuts one in
      none-past cuts last.at at (omega (arith, there, past)) (sym s.behind ∙ is.all few)

  pub block-none : (block : CutBlock) (at : ℕ) → IsBlock cell kinds pairs text cuts block
      → block.count < block.room → block.behind.at ≤ at → cuts_past at cuts ≡ []
  block-none block at is few past = none-by block at (block.count == 0) refl is few past

or-less : (k n : ℕ) → k < n → (k ≡ n - 1 → ⊥) → k + 1 < n
or-less k n below not_last = ⊎_elim (λ (less : k + 1 < n). less) (λ (same : n ≤ k + 1). absurd (not_last (omega arith))) (cases_lt (k + 1) n)

-- the search goes on within a block
pub goes-on : (block : CutBlock) (k at : ℕ) → at < block.behind.at → k < block.count → (slice_index_or block.cuts k no_cut).at ≤ at
    → k + 1 < block.count
goes-on block k at behind below before =
    let there = block.end ∙ end-some block.count block.before.at block.cuts (omega arith) in
    let not_last : k ≡ block.count - 1 → ⊥ = λ same. (
    let here : (slice_index_or block.cuts k no_cut).at ≡ (slice_index_or block.cuts (block.count - 1) no_cut).at = ap (λ n. (slice_index_or block.cuts n no_cut).at) same in
    absurd (omega (arith, here, there, before, behind))) in
    or-less k block.count below not_last

-- a block that reaches past its start has a cut
reach-by : (block : CutBlock) (at : ℕ) (b : Bool) → (block.count == 0) ≡ b → block.before.at ≤ at → at < block.behind.at → 0 < block.count
reach-by block at true none before behind =
    let there : block.behind.at ≡ block.before.at = block.end ∙ ap (λ b. cond b block.before.at (slice_index_or block.cuts (block.count - 1) no_cut).at) none in
    absurd (omega (arith, there, before, behind))
reach-by block at false some before behind = grind (arith, nat_tests)

pub reach-some : (block : CutBlock) (at : ℕ) → block.before.at ≤ at → at < block.behind.at → 0 < block.count
reach-some block at before behind = reach-by block at (block.count == 0) refl before behind

pub reach-le : (from to at : ℕ) → (nat_le from at && nat_lt at to) ≡ true → (from ≤ at) × (at < to)
reach-le from to at is = (let below : from ≤ at = grind (arith, nat_tests) in below, let before : at < to = grind (arith, nat_tests) in before)

-- a place in a block is behind a cut, if it is not the end
pub was-found : (block : CutBlock) (k at : ℕ) → (k ≡ block.count) ⊎ ((0 < k) × ((slice_index_or block.cuts (k - 1) no_cut).at ≡ at)) → k < block.count
    → (0 < k) × ((slice_index_or block.cuts (k - 1) no_cut).at ≡ at)
was-found block k at (inl all) below = absurd (omega arith)
was-found block k at (inr found) below = found

-- the cut in front of a place, and of the next one
pub last-first : (out : List Cut) (from : ℕ) (first : Cut) → last_in out from first from ≡ first
last-first out from first = let same : (from == from) ≡ true = grind (arith, nat_tests) in ap (λ b. cond b first (slice_index_or out (from - 1) no_cut)) same

pub last-next : (out : List Cut) (from k : ℕ) (first : Cut) → from ≤ k → last_in out from first (k + 1) ≡ slice_index_or out k no_cut
last-next out from k first below =
    let other : (from == (k + 1)) ≡ false = grind (arith, nat_tests) in
    let e : k + 1 - 1 ≡ k = omega arith in
    ap (λ b. cond b first (slice_index_or out (k + 1 - 1) no_cut)) other ∙ ap (λ n. slice_index_or out n no_cut) e

pub early-next : (out : List Cut) (early : Option Cut) (k e : ℕ) (b : Bool) → early_in out early (cond b (k + 1) e) ≡ cond b (Some (slice_index_or out k no_cut)) (early_in out early e)
early-next out early k e true =
    let other : ((k + 1) == 0) ≡ false = grind (arith, nat_tests) in
    let one : k + 1 - 1 ≡ k = omega arith in
    ap (λ b. cond b early (Some (slice_index_or out (k + 1 - 1) no_cut))) other ∙ ap (λ n. Some (slice_index_or out n no_cut)) one
early-next out early k e false = refl

behind-by : (block : CutBlock) (from k : ℕ) (first : Cut) (b : Bool) → (from == k) ≡ b → (0 < from) × ((slice_index_or block.cuts (from - 1) no_cut).at ≡ first.at)
    → from ≤ k → (0 < k) × ((slice_index_or block.cuts (k - 1) no_cut).at ≡ (cond b first (slice_index_or block.cuts (k - 1) no_cut)).at)
behind-by block from k first true is found below =
    let same : from ≡ k = grind (arith, nat_tests) in
    (omega (arith, same, found.0), ap (λ n. (slice_index_or block.cuts (n - 1) no_cut).at) (sym same) ∙ found.1)
behind-by block from k first false is found below = (omega (arith, found.0, below), refl)

-- a search that began behind a cut stands behind one
pub stands-behind : (block : CutBlock) (from k : ℕ) (first : Cut) → (from ≡ block.count) ⊎ ((0 < from) × ((slice_index_or block.cuts (from - 1) no_cut).at ≡ first.at))
    → from ≤ k → k < block.count → (0 < k) × ((slice_index_or block.cuts (k - 1) no_cut).at ≡ (last_in block.cuts from first k).at)
stands-behind block from k first found below within = behind-by block from k first (from == k) refl (was-found block from first.at found (omega arith)) below
