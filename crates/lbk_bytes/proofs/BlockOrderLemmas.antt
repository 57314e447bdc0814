-- Breaks in order, by the bits of a block.
use Rattle.std.proofs.Common.{◌≡◌, ◌≢◌, ◌⊎◌, ℕ, ◌+◌, ◌-◌, ◌<◌, ◌≤◌, true, false, List, sym, subst, ◌∙◌, ⊎_elim, inl, inr, arith}
use Rattle.lbk_masks.specs.Sets.{is_set}
use Rattle.lbk_bytes.specs.declared.blocks.BlockState.{BlockState}
use Rattle.lbk_bytes.specs.declared.fill_state.FillState.{FillState}
use Rattle.lbk_bytes.specs.declared.raw_break.RawBreak.{RawBreak}
use Rattle.lbk_masks.specs.Bits.{AreCleared, AreKeptBelow, AreKeptFrom, IsLowest}
use Rattle.lbk_bytes.specs.Blocks.{IsAhead}
use Rattle.lbk_bytes.specs.Order.{AreInOrder}
use Rattle.lbk_bytes.specs.Reached.{IsInOrder}
use Rattle.lbk_bytes.proofs.BlockLemmas.{order, zero-or}
use Rattle.lbk_bytes.proofs.OrderLemmas.{AreInOrder-wider}

pub IsInOrder-wider : (block : List RawBreak) (count from at further : ℕ) → at ≤ further → IsInOrder block count from at → IsInOrder block count from further
IsInOrder-wider block count from at further wider o = (omega (arith, o.0, wider), AreInOrder-wider block count from at further wider o.1)

-- the lowest bit is of a byte from here on, in the first bytes
pub lowest-ahead : (at taken index : ℕ) (here : BlockState) → IsAhead at taken here → index < 64 → is_set here.left index ≡ true → (index < taken) × (here.past ≤ at + index)
lowest-ahead at taken index here ahead few set =
    let never : (taken ≤ index) ⊎ (at + index < here.past) → ⊥ = λ out. (let no : true ≡ false = sym set ∙ ahead.none index few out in (let f : ⊥ = cc in f)) in (
      ⊎_elim (λ (le : taken ≤ index). absurd (never (inl le))) (λ (lt : index < taken). lt) (order index taken),
      ⊎_elim (λ (le : here.past ≤ at + index). le) (λ (lt : at + index < here.past). absurd (never (inr lt))) (order (at + index) here.past),
    )

-- behind the lowest bit no other is left before
pub ahead-taken : (at taken index : ℕ) (here there : BlockState) → IsAhead at taken here → index < 64 → 0 < here.left → IsLowest here.left index
    → AreCleared here.left index there.left → there.past ≡ at + index + 1 → IsAhead at taken there
ahead-taken at taken index here there ahead few some lowest cleared moved =
    let first = lowest-ahead at taken index here ahead few (lowest.set some) in
    let inside = first.0 in record {
      within = omega arith;
      none = λ i h out_of. none i h out_of;
    }
  where
    none : (i : ℕ) → i < 64 → (taken ≤ i) ⊎ (at + i < there.past) → is_set there.left i ≡ false
    none i h (inl le) =
        let inside = (lowest-ahead at taken index here ahead few (lowest.set some)).0 in
        let apart : i ≢ index = omega arith in cleared.same i h apart ∙ ahead.none i h (inl le)
    none i h (inr lt) =
        ⊎_elim (λ (le : index ≤ i). subst (λ j. is_set there.left j ≡ false) (let e : index ≡ i = omega arith in e) cleared.gone)
        (λ (less : i < index). (let apart : i ≢ index = omega arith in cleared.same i h apart ∙ lowest.none i less)) (order i index)

pub order-taken : (out after : List RawBreak) (at taken index written from : ℕ) (here : BlockState)
    → IsAhead at taken here → index < 64 → 0 < here.left → IsLowest here.left index
    → ((from to : ℕ) → at + index < to → IsInOrder out here.count from (at + index) → AreInOrder after written from to)
    → IsInOrder out here.count from here.past → IsInOrder after written from (at + index + 1)
order-taken out after at taken index written from here ahead few some lowest put o =
    let first = lowest-ahead at taken index here ahead few (lowest.set some) in
    let behind = IsInOrder-wider out here.count from here.past (at + index) first.1 o in
    (omega (arith, behind.0), put from (at + index + 1) (omega arith) behind)

-- bytes of a block that are begun have no break left but among them
pub ahead-begins : (at begin taken bits from : ℕ) (here : BlockState) → begin ≤ taken → taken ≤ 64 → here.past ≡ at + begin → AreKeptFrom begin bits from → AreKeptBelow taken from here.left
    → IsAhead at taken here
ahead-begins at begin taken bits from here some few begins since kept = record {
  within = omega arith;
  none = λ i h out_of.
      ⊎_elim (λ (le : taken ≤ i). kept.none i le h)
      (λ (lt : at + i < here.past). kept.same i (omega arith) ∙ since.none i (omega arith)) out_of;
}

-- where a block is left is not before it was begun
pub past-stopped : (at taken : ℕ) (here : BlockState) (there : FillState)
    → at ≤ there.at → (here.left ≡ 0 → there.at ≡ at + taken) → (0 < here.left → IsLowest here.left (there.at - at) × (there.at < at + 64))
    → IsAhead at taken here → here.past ≤ there.at
past-stopped at taken here there onward done stopped ahead =
    let within = ahead.within in
    ⊎_elim (λ (none : here.left ≡ 0). (let e = done none in omega arith))
    (λ (some : 0 < here.left).
    let found = stopped some in
    let few = found.1 in
    let first = (lowest-ahead at taken (there.at - at) here ahead (omega arith) (found.0.set some)).1 in
    omega arith)
    (zero-or here.left)

-- where a block is left the breaks are in order
pub order-stopped : (out : List RawBreak) (at taken from : ℕ) (here : BlockState) (there : FillState)
    → there.count ≡ here.count → at ≤ there.at → (here.left ≡ 0 → there.at ≡ at + taken) → (0 < here.left → IsLowest here.left (there.at - at) × (there.at < at + 64))
    → IsAhead at taken here → IsInOrder out here.count from here.past → IsInOrder out there.count from there.at
order-stopped out at taken from here there counted onward done stopped ahead o =
    subst (λ n. IsInOrder out n from there.at) (sym counted)
    (IsInOrder-wider out here.count from here.past there.at (past-stopped at taken here there onward done stopped ahead) o)
