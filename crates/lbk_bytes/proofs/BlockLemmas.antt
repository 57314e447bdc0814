-- A block of bytes that are scalars of one byte or two, the first bytes of which tell the step with the byte before.
use Rattle.std.proofs.Common.{◌≡◌, ◌≢◌, ◌⊎◌, ℕ, zero, suc, ◌+◌, ◌-◌, ◌<◌, ◌≤◌, Bool, true, false, cond, not, List, [], ◌∷◌, ◌++◌, length, refl, sym, ap, subst, ◌∙◌, ⊎_elim, inl, inr, arith}
use Rattle.std.proofs.lemmas.List.{append-nil}
use Rattle.lbk_masks.specs.Sets.{is_set}
use Rattle.lbk_rules.specs.declared.Cell.{Cell}
use Rattle.lbk_rules.specs.declared.steps.Step.{Step}
use Rattle.lbk_rules.specs.declared.neighbours.Neighbours.{Neighbours}
use Rattle.lbk_values.specs.declared.profile.Profile.{Profile}
use Rattle.lbk_rules.specs.Breaks.{break_by, is_no}
use Rattle.lbk_rules.specs.FlatTable.{AreFlatKinds}
use Rattle.lbk_rules.specs.Neighbours.{step_behind}
use Rattle.lbk_rules.specs.Rows.{steps_in, verdict_shown}
use Rattle.lbk_bytes.specs.declared.blocks.BlockState.{BlockState}
use Rattle.lbk_bytes.specs.declared.fill_state.FillState.{FillState}
use Rattle.lbk_bytes.specs.declared.raw_break.RawBreak.{RawBreak}
use Rattle.lbk_masks.specs.Bits.{AreCleared, AreKeptBelow, AreKeptFrom, IsLowest}
use Rattle.lbk_bytes.specs.Blocks.{AreLeft, IsBlock, IsByteTold, byte_at, place_at, place_in, row_before, stands_at}
use Rattle.lbk_bytes.specs.Bytes.{with_break}
use Rattle.lbk_bytes.specs.Reached.{Ahead, Reached}
use Rattle.lbk_bytes.specs.Shown.{given_in}
use Rattle.lbk_masks.proofs.BitLemmas.{set-none}
use Rattle.lbk_bytes.proofs.BlockScalarLemmas.{begins-or, depart, end-low, scalar-more, stay}

-- a verdict by which no line breaks
no-break : (at code : ℕ) → is_no (verdict_shown code).kind ≡ true → with_break at (verdict_shown code) [] ≡ []
no-break at code none = ap (λ b. cond b [] (break_by at (verdict_shown code) ∷ [])) none

-- so it is where the sets do not meet
not-set : (b no : Bool) → b ≡ not no → b ≡ false → no ≡ true
not-set b true is none = refl
not-set b false is none = absurd (let never : ⊥ = cc in never)

-- a byte before which no line breaks
quiet-byte : (profile : Profile) (cell : ℕ → Cell) (text more : List ℕ) (all : Ahead) (steps : List (List Step)) (kinds : List ℕ) (pairs : Neighbours)
    (out : List RawBreak) (count at : ℕ)
    → steps ≡ steps_in profile → AreFlatKinds kinds cell → at < length text → IsByteTold steps kinds pairs text at → stands_at pairs text at ≡ false
    → Reached profile cell (text ++ more) all (place_at pairs text count at) (given_in out count)
    → Reached profile cell (text ++ more) all (place_at pairs text count (at + 1)) (given_in out count)
quiet-byte profile cell text more all steps kinds pairs out count at swift are_kinds inside told quiet r =
    ⊎_elim
    (λ (begins : (byte_at text at < 128) ⊎ (192 ≤ byte_at text at)).
    let step = step_behind steps kinds pairs (byte_at text (at - 1)) (byte_at text at) in
    let none = not-set (stands_at pairs text at) (is_no (verdict_shown step.shown).kind) (told.settled begins).1.breaks quiet in
    scalar-more profile cell text more all steps kinds pairs out out count count at swift are_kinds inside begins told
    (sym (ap (λ l. given_in out count ++ l) (no-break at step.shown none) ∙ append-nil (given_in out count))) r)
    (λ (last : (128 ≤ byte_at text at) × (byte_at text at < 192)). stay profile cell text more all pairs out count at (told.quiet last.0 last.1).0 last.1 r)
    (begins-or (byte_at text at))

-- bytes before which no line breaks
quiet-bytes : (profile : Profile) (cell : ℕ → Cell) (text more : List ℕ) (all : Ahead) (steps : List (List Step)) (kinds : List ℕ) (pairs : Neighbours)
    (out : List RawBreak) (count at n : ℕ)
    → steps ≡ steps_in profile → AreFlatKinds kinds cell → at + n ≤ length text
    → ((i : ℕ) → i < n → IsByteTold steps kinds pairs text (at + i) × (stands_at pairs text (at + i) ≡ false))
    → Reached profile cell (text ++ more) all (place_at pairs text count at) (given_in out count)
    → Reached profile cell (text ++ more) all (place_at pairs text count (at + n)) (given_in out count)
quiet-bytes profile cell text more all steps kinds pairs out count at zero swift are_kinds within quiet r =
    subst (λ p. Reached profile cell (text ++ more) all (place_at pairs text count p) (given_in out count)) (let e : at ≡ at + 0 = omega arith in e) r
quiet-bytes profile cell text more all steps kinds pairs out count at (suc n) swift are_kinds within quiet r =
    let before = quiet-bytes profile cell text more all steps kinds pairs out count at n swift are_kinds (omega arith) (λ i h. quiet i (omega (arith, h))) r in
    let here = quiet n (omega arith) in
    let one = quiet-byte profile cell text more all steps kinds pairs out count (at + n) swift are_kinds (omega arith) here.0 here.1 before in
    subst (λ p. Reached profile cell (text ++ more) all (place_at pairs text count p) (given_in out count)) (let e : at + n + 1 ≡ at + suc n = omega arith in e) one

-- the bytes from here on up to a break that is left
up-to : (profile : Profile) (cell : ℕ → Cell) (text more : List ℕ) (all : Ahead) (steps : List (List Step)) (kinds : List ℕ) (pairs : Neighbours)
    (out : List RawBreak) (at begin taken index : ℕ) (here : BlockState)
    → at + taken ≤ length text → IsBlock profile cell steps kinds pairs text at begin taken → AreLeft pairs text at begin taken here
    → index ≤ taken → here.past ≤ at + index → ((i : ℕ) → i < index → is_set here.left i ≡ false)
    → Reached profile cell (text ++ more) all (place_in pairs text here) (given_in out here.count)
    → Reached profile cell (text ++ more) all (place_at pairs text here.count (at + index)) (given_in out here.count)
up-to profile cell text more all steps kinds pairs out at begin taken index here room block left few after none r =
    let n = at + index - here.past in
    let ends : here.past + n ≡ at + index = omega arith in
    let first = here.past - at in
    let a = left.after in
    let begins : at + first ≡ here.past = omega arith in
    let quiet : (i : ℕ) → i < n → IsByteTold steps kinds pairs text (here.past + i) × (stands_at pairs text (here.past + i) ≡ false) =
    λ i h.
    let same : at + (first + i) ≡ here.past + i = omega arith in
    let inside : first + i < taken = omega arith in
    let below : first + i < index = omega arith in (
      subst (IsByteTold steps kinds pairs text) same (block.told (first + i) (omega arith) inside),
      ap (stands_at pairs text) (sym same) ∙ sym (left.told (first + i) inside (omega arith)) ∙ none (first + i) below,
    ) in
    let f = block.few in
    subst (λ p. Reached profile cell (text ++ more) all (place_at pairs text here.count p) (given_in out here.count)) ends
    (quiet-bytes profile cell text more all steps kinds pairs out here.count here.past n block.steps_are block.kinds_are (omega arith) quiet r)

-- all bytes of the block that are taken, where no break is left
pub taken-all : (profile : Profile) (cell : ℕ → Cell) (text more : List ℕ) (all : Ahead) (steps : List (List Step)) (kinds : List ℕ) (pairs : Neighbours)
    (out : List RawBreak) (at begin taken : ℕ) (here : BlockState)
    → at + taken ≤ length text → IsBlock profile cell steps kinds pairs text at begin taken → AreLeft pairs text at begin taken here → here.left ≡ 0
    → Reached profile cell (text ++ more) all (place_in pairs text here) (given_in out here.count)
    → Reached profile cell (text ++ more) all (record { count = here.count; row = row_before pairs text (at + taken); at = at + taken }) (given_in out here.count)
taken-all profile cell text more all steps kinds pairs out at begin taken here room block left empty r =
    depart profile cell text more all pairs out here.count (at + taken) (at + taken) (end-low text (at + taken) block.ends)
    (up-to profile cell text more all steps kinds pairs out at begin taken taken here room block left (omega arith) left.within
    (λ i h. ap (λ n. is_set n i) empty ∙ set-none i) r)

-- Where the lowest bit is one that stands out

record StandsFirst (pairs : Neighbours) (text : List ℕ) (at taken index : ℕ) (here : BlockState) : Type 0 where
  inside : index < taken
  after : here.past ≤ at + index
  stands : stands_at pairs text (at + index) ≡ true

pub order : (m n : ℕ) → (n ≤ m) ⊎ (m < n)
order m zero = inl (omega arith)
order zero (suc n) = inr (omega arith)
order (suc m) (suc n) = ⊎_elim (λ le. inl (omega arith)) (λ lt. inr (omega arith)) (order m n)

stands-first : (pairs : Neighbours) (text : List ℕ) (at begin taken index : ℕ) (here : BlockState) → AreLeft pairs text at begin taken here → index < 64
    → is_set here.left index ≡ true → StandsFirst pairs text at taken index here
stands-first pairs text at begin taken index here left few set =
    let never : (taken ≤ index) ⊎ (at + index < here.past) → ⊥ = λ out. (let no : true ≡ false = sym set ∙ left.none index few out in (let f : ⊥ = cc in f)) in
    let inside : index < taken = ⊎_elim (λ le. absurd (never (inl le))) (λ lt. lt) (order index taken) in
    let after : here.past ≤ at + index = ⊎_elim (λ le. le) (λ lt. absurd (never (inr lt))) (order (at + index) here.past) in
    record { inside = inside; after = after; stands = sym (left.told index inside after) ∙ set }

-- a byte that stands out begins a scalar
break-begins : (steps : List (List Step)) (kinds : List ℕ) (pairs : Neighbours) (text : List ℕ) (place : ℕ) → IsByteTold steps kinds pairs text place
    → stands_at pairs text place ≡ true → (byte_at text place < 128) ⊎ (192 ≤ byte_at text place)
break-begins steps kinds pairs text place told stands =
    ⊎_elim (λ (begins : (byte_at text place < 128) ⊎ (192 ≤ byte_at text place)). begins)
    (λ (last : (128 ≤ byte_at text place) × (byte_at text place < 192)).
    let quiet = (told.quiet last.0 last.1).1 in
    let no : true ≡ false = sym stands ∙ quiet in
    absurd (let never : ⊥ = cc in never))
    (begins-or (byte_at text place))

-- the break that stands first is written, and the others are left
pub break-taken : (profile : Profile) (cell : ℕ → Cell) (text more : List ℕ) (all : Ahead) (steps : List (List Step)) (kinds : List ℕ) (pairs : Neighbours)
    (out after : List RawBreak) (at begin taken index : ℕ) (here there : BlockState) (step : Step)
    → at + taken ≤ length text → IsBlock profile cell steps kinds pairs text at begin taken → AreLeft pairs text at begin taken here → index < 64 → 0 < here.left
    → IsLowest here.left index → AreCleared here.left index there.left → there.past ≡ at + index + 1
    → step ≡ step_behind steps kinds pairs (byte_at text (at + index - 1)) (byte_at text (at + index))
    → given_in after there.count ≡ given_in out here.count ++ with_break (at + index) (verdict_shown step.shown) []
    → Reached profile cell (text ++ more) all (place_in pairs text here) (given_in out here.count)
    → AreLeft pairs text at begin taken there × Reached profile cell (text ++ more) all (place_in pairs text there) (given_in after there.count)
break-taken profile cell text more all steps kinds pairs out after at begin taken index here there step room block left few some lowest cleared moved is_step front r =
    let first = stands-first pairs text at begin taken index here left few (lowest.set some) in
    let inside = first.inside in
    let behind = first.after in
    let up = up-to profile cell text more all steps kinds pairs out at begin taken index here room block left (omega arith) first.after lowest.none r in
    let f = block.few in
    let told = block.told index (omega arith) inside in
    let begins = break-begins steps kinds pairs text (at + index) told first.stands in
    let one = scalar-more profile cell text more all steps kinds pairs out after here.count there.count (at + index) block.steps_are block.kinds_are (omega arith) begins told
    (subst (λ (s : Step). given_in after there.count ≡ given_in out here.count ++ with_break (at + index) (verdict_shown s.shown) []) is_step front)
    up in (
      record {
        after = (let a = left.after in omega arith);
        within = omega arith;
        told = λ i h past.
            let apart : i ≢ index = omega arith in
            cleared.same i (omega arith) apart ∙ left.told i h (omega arith);
        none = λ i h out_of. left-none i h out_of;
      },
      subst (λ p. Reached profile cell (text ++ more) all (place_at pairs text there.count p) (given_in after there.count)) (sym moved) one,
    )
  where
    below : (i : ℕ) → i < 64 → i < index → is_set there.left i ≡ false
    below i h lt = (let apart : i ≢ index = omega arith in cleared.same i h apart ∙ lowest.none i lt)

    left-none : (i : ℕ) → i < 64 → (taken ≤ i) ⊎ (at + i < there.past) → is_set there.left i ≡ false
    left-none i h (inl le) =
        let inside = (stands-first pairs text at begin taken index here left few (lowest.set some)).inside in
        let apart : i ≢ index = omega arith in
        cleared.same i h apart ∙ left.none i h (inl le)
    left-none i h (inr lt) = ⊎_elim (λ (le : index ≤ i). subst (λ j. is_set there.left j ≡ false) (let e : index ≡ i = omega arith in e) cleared.gone) (λ (less : i < index). below i h less) (order i index)

-- the breaks that are left when bytes of a block are begun
pub are-left : (pairs : Neighbours) (text : List ℕ) (at begin taken standing from : ℕ) (here : BlockState) → taken ≤ 64 → at + taken ≤ length text → begin ≤ taken → here.past ≡ at + begin
    → AreKeptFrom begin standing from → AreKeptBelow taken from here.left → ((i : ℕ) → i < 64 → at + i < length text → is_set standing i ≡ stands_at pairs text (at + i))
    → AreLeft pairs text at begin taken here
are-left pairs text at begin taken standing from here few room some begins since kept stands = record {
  after = omega arith;
  within = omega arith;
  told = λ i h past. kept.same i h ∙ since.same i (omega arith) (omega arith) ∙ stands i (omega arith) (omega arith);
  none = λ i h out_of.
      ⊎_elim (λ (le : taken ≤ i). kept.none i le h)
      (λ (lt : at + i < here.past). kept.same i (omega arith) ∙ since.none i (omega arith)) out_of;
}

-- Where a block is left

-- a number is 0, or more
pub zero-or : (n : ℕ) → (n ≡ 0) ⊎ (0 < n)
zero-or zero = inl refl
zero-or (suc n) = inr (omega arith)

pub reached-there : (profile : Profile) (cell : ℕ → Cell) (text more : List ℕ) (all : Ahead) (pairs : Neighbours) (out : List RawBreak) (count at : ℕ) (there : FillState)
    → there.count ≡ count → there.row ≡ row_before pairs text there.at → there.at ≡ at
    → Reached profile cell (text ++ more) all (record { count = count; row = row_before pairs text at; at = at }) (given_in out count)
    → Reached profile cell (text ++ more) all there (given_in out there.count)
reached-there profile cell text more all pairs out count at there is_count is_row is_at r =
    subst (λ n. Reached profile cell (text ++ more) all (record { count = n; row = there.row; at = there.at }) (given_in out n)) (sym is_count)
    (subst (λ w. Reached profile cell (text ++ more) all (record { count = count; row = w; at = there.at }) (given_in out count)) (sym is_row)
    (subst (λ p. Reached profile cell (text ++ more) all (record { count = count; row = row_before pairs text p; at = p }) (given_in out count)) (sym is_at) r))

-- the bytes up to the next break that is left
next-break : (profile : Profile) (cell : ℕ → Cell) (text more : List ℕ) (all : Ahead) (steps : List (List Step)) (kinds : List ℕ) (pairs : Neighbours)
    (out : List RawBreak) (at begin taken index : ℕ) (here : BlockState)
    → at + taken ≤ length text → IsBlock profile cell steps kinds pairs text at begin taken → AreLeft pairs text at begin taken here → index < 64 → 0 < here.left
    → IsLowest here.left index
    → Reached profile cell (text ++ more) all (place_in pairs text here) (given_in out here.count)
    → Reached profile cell (text ++ more) all (record { count = here.count; row = row_before pairs text (at + index); at = at + index }) (given_in out here.count)
next-break profile cell text more all steps kinds pairs out at begin taken index here room block left few some lowest r =
    let first = stands-first pairs text at begin taken index here left few (lowest.set some) in
    let told = block.told index (let b = left.after in let f = first.after in omega arith) first.inside in
    let inside = first.inside in
    depart profile cell text more all pairs out here.count (at + index) (at + index)
    (end-low text (at + index) (told.settled (break-begins steps kinds pairs text (at + index) told first.stands)).0)
    (up-to profile cell text more all steps kinds pairs out at begin taken index here room block left (omega arith) first.after lowest.none r)

-- behind the bytes that are taken if no break is left, else before the next break
pub stopped-there : (profile : Profile) (cell : ℕ → Cell) (text more : List ℕ) (all : Ahead) (steps : List (List Step)) (kinds : List ℕ) (pairs : Neighbours)
    (out : List RawBreak) (at begin taken : ℕ) (here : BlockState) (there : FillState)
    → at + taken ≤ length text → IsBlock profile cell steps kinds pairs text at begin taken
    → there.count ≡ here.count → there.row ≡ row_before pairs text there.at → at ≤ there.at → (here.left ≡ 0 → there.at ≡ at + taken)
    → (0 < here.left → IsLowest here.left (there.at - at) × (there.at < at + 64))
    → AreLeft pairs text at begin taken here × Reached profile cell (text ++ more) all (place_in pairs text here) (given_in out here.count)
    → Reached profile cell (text ++ more) all there (given_in out there.count)
stopped-there profile cell text more all steps kinds pairs out at begin taken here there room block is_count is_row onward done stopped known =
    ⊎_elim
    (λ (none : here.left ≡ 0).
    reached-there profile cell text more all pairs out here.count (at + taken) there is_count is_row (done none)
    (taken-all profile cell text more all steps kinds pairs out at begin taken here room block known.0 none known.1))
    (λ (some : 0 < here.left).
    let found = stopped some in
    let few = found.1 in
    reached-there profile cell text more all pairs out here.count (at + (there.at - at)) there is_count is_row (omega arith)
    (next-break profile cell text more all steps kinds pairs out at begin taken (there.at - at) here room block known.0 (omega arith) some found.0 known.1))
    (zero-or here.left)
