-- Breaks as a block of numbers has them.
use Rattle.std.proofs.Common.{◌≡◌, ℕ, zero, suc, ◌+◌, ◌<◌, ◌≤◌, List, [], ◌∷◌, length, drop, map, take, slice_index_or, refl, sym, ap, ap₂, subst, ◌∙◌, arith}
use Rattle.std.proofs.lemmas.List.{get_or-take, length-take-le}
use Rattle.lbk_rules.specs.declared.Break.{Break}
use Rattle.lbk_bytes.specs.declared.raw_break.RawBreak.{RawBreak}
use Rattle.lbk_bytes.specs.Order.{IsBreak, no_break}
use Rattle.lbk_bytes.specs.Shown.{raw_of, shown}
use Rattle.lbk_bytes.proofs.ShownLemmas.{shown-raw}

raw-shown : (raw : RawBreak) (b : Break) → IsBreak raw → shown raw ≡ b → raw_of b ≡ raw
raw-shown raw b is same = sym (is.1 ∙ ap raw_of (sym (shown-raw is.0) ∙ ap shown (sym is.1) ∙ same))

raws-of : (raws : List RawBreak) (bs : List Break) → map shown raws ≡ bs → ((k : ℕ) → k < length raws → IsBreak (slice_index_or raws k no_break))
    → map raw_of bs ≡ raws
raws-of [] [] same each = refl
raws-of [] (b ∷ bs) same each = absurd (let no : ⊥ = cc in no)
raws-of (r ∷ rs) [] same each = absurd (let no : ⊥ = cc in no)
raws-of (r ∷ rs) (b ∷ bs) same each =
    let first : shown r ≡ b = cc in
    let others : map shown rs ≡ bs = cc in
    ap₂ (λ (x : RawBreak) (l : List RawBreak). x ∷ l) (raw-shown r b (each 0 (omega arith)) first) (raws-of rs bs others (λ k h. each (suc k) (omega arith)))

pub shown-front : (count : ℕ) (block : List RawBreak) (bs : List Break) → count ≤ length block → map shown (take count block) ≡ bs
    → ((k : ℕ) → k < count → IsBreak (slice_index_or block k no_break)) → map raw_of bs ≡ take count block
shown-front count block bs room same each =
    let size = length-take-le count block room in
    raws-of (take count block) bs same (λ k h. (let below : k < count = omega (arith, h, size) in subst IsBreak (sym (get_or-take count block k no_break below)) (each k below)))

-- the break that a number of the block stands for
pub record IsShownAt (found : List Break) (raw : RawBreak) (k : ℕ) : Type 0 where
  pub break_at : Break
  pub shown : raw_of break_at ≡ raw
  pub joined : drop k found ≡ break_at ∷ drop (k + 1) found

shown-in : (k : ℕ) (found : List Break) (raws : List RawBreak) → map raw_of found ≡ raws → k < length raws → IsShownAt found (slice_index_or raws k no_break) k
shown-in k [] [] is below = absurd (omega arith)
shown-in k [] (r ∷ rs) is below = absurd (let no : ⊥ = cc in no)
shown-in k (b ∷ bs) [] is below = absurd (let no : ⊥ = cc in no)
shown-in zero (b ∷ bs) (r ∷ rs) is below = record { break_at = b; shown = (let same : raw_of b ≡ r = cc in same); joined = refl }
shown-in (suc k) (b ∷ bs) (r ∷ rs) is below =
    let more = shown-in k bs rs (let same : map raw_of bs ≡ rs = cc in same) (omega arith) in
    record {
      break_at = more.break_at;
      shown = more.shown;
      joined = more.joined ∙ ap (λ n. more.break_at ∷ drop n (b ∷ bs)) (let e : suc (k + 1) ≡ suc k + 1 = omega arith in e);
    }

pub shown-at : (k count : ℕ) (found : List Break) (block : List RawBreak) → map raw_of found ≡ take count block → k < count → count ≤ length block
    → IsShownAt found (slice_index_or block k no_break) k
shown-at k count found block is below room =
    subst (λ (r : RawBreak). IsShownAt found r k) (get_or-take count block k no_break below)
    (shown-in k found (take count block) is (omega (arith, below, length-take-le count block room)))
