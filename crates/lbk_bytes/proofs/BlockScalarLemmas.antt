-- A scalar of one byte or two, by which a block goes on.
use Rattle.std.proofs.Common.{◌≡◌, ◌⊎◌, ℕ, ◌+◌, ◌-◌, ◌<◌, ◌≤◌, true, leb, List, [], ◌++◌, length, get_or, drop, refl, sym, ap, subst, ◌∙◌, ⊎_elim, inl, inr, arith}
use Rattle.std.specs.Char.{IsScalar}
use Rattle.std.proofs.Math.Utf8.{scalar}
use Rattle.std.proofs.lemmas.Bool.{agree_below_at, cases_lt, cond-false, cond-true, le-leb, lt-leb}
use Rattle.std.proofs.lemmas.Bool.Decides.{nat_tests}
use Rattle.std.proofs.lemmas.List.{get_or-drop, length-append, length-drop}
use Rattle.bstr.specs.Utf8.{code_of_2, decoded, good, second}
use Rattle.bstr.proofs.lemmas.PieceLemmas.{value-1, value-6}
use Rattle.lbk_rules.specs.Letters.{StandsFor, StandsForAll}
use Rattle.lbk_rules.specs.declared.Cell.{Cell}
use Rattle.lbk_rules.specs.declared.steps.Step.{Step}
use Rattle.lbk_rules.specs.declared.neighbours.Neighbours.{Neighbours}
use Rattle.lbk_values.specs.declared.profile.Profile.{Profile}
use Rattle.lbk_rules.specs.FlatTable.{AreFlatKinds}
use Rattle.lbk_rules.specs.Neighbours.{row_behind, step_behind}
use Rattle.lbk_rules.specs.Rows.{IsPlace, place_by, step_by, steps_in, verdict_shown}
use Rattle.lbk_rules.proofs.FlatLemmas.{place-any, place-same}
use Rattle.lbk_bytes.specs.declared.fill_state.FillState.{FillState}
use Rattle.lbk_bytes.specs.declared.raw_break.RawBreak.{RawBreak}
use Rattle.lbk_bytes.specs.Blocks.{GoesOn, IsByteTold, Rests, byte_at, end_at, place_at, row_before}
use Rattle.lbk_bytes.specs.Bytes.{with_break}
use Rattle.lbk_bytes.specs.Reached.{Ahead, Reached}
use Rattle.lbk_bytes.specs.Shown.{given_in}
use Rattle.lbk_bytes.proofs.CutLemmas.{reads-more}
use Rattle.lbk_bytes.proofs.LoopLemmas.{Reached-swift}
use Rattle.lbk_bytes.proofs.StepLemmas.{swift-step}
use Rattle.lbk_bytes.proofs.PieceLemmas.{Reads, reads, rest-of}

-- a number of a byte is the code of a scalar
pub byte-scalar : (byte : ℕ) → byte < 256 → IsScalar byte
byte-scalar byte low = agree_below_at scalar (λ _. true) 256 byte refl low

first-of : (text : List ℕ) (at : ℕ) → get_or (drop at text) 0 0 ≡ byte_at text at
first-of text at = get_or-drop at text 0 0 ∙ ap (λ n. get_or text n 0) (let e : at + 0 ≡ at = omega arith in e)

-- a byte below 128 is a scalar of its own
pub ascii-reads : (text : List ℕ) (at : ℕ) → at < length text → byte_at text at < 128 → Reads text at (byte_at text at) 1
ascii-reads text at inside low =
    let rest = drop at text in
    let same = first-of text at in
    let some : 0 < length rest = omega (arith, length-drop at text) in
    let read : decoded rest ≡ good (byte_at text at) 1 =
    value-1 (length rest) (get_or rest 0 0) (get_or rest 1 0) (get_or rest 2 0) (get_or rest 3 0) (some, omega arith) ∙ ap (λ c. good c 1) same in
    reads text at (byte_at text at) 1 inside (ap decoded (rest-of text at) ∙ read)

second-of-two : (b c : ℕ) → 0xC2 ≤ b → b < 0xE0 → 128 ≤ c → c < 192 → second b c ≡ true
second-of-two b c low high least most = grind (arith, nat_tests)

-- a first byte of two and the second are a scalar
pub two-reads : (text : List ℕ) (at : ℕ) → at < length text → 0xC2 ≤ byte_at text at → byte_at text at < 0xE0 → GoesOn text (at + 1)
    → Reads text at (code_of_2 (byte_at text at) (byte_at text (at + 1))) 2
two-reads text at inside low high more =
    let rest = drop at text in
    let first = first-of text at in
    let next : get_or rest 1 0 ≡ byte_at text (at + 1) = get_or-drop at text 1 0 in
    let within = more.within in
    let two : 2 ≤ length rest = omega (arith, length-drop at text) in
    let least = more.least in
    let below = more.below in
    let is_second : second (get_or rest 0 0) (get_or rest 1 0) ≡ true =
    second-of-two (get_or rest 0 0) (get_or rest 1 0) (omega arith) (omega arith) (omega arith) (omega arith) in
    let read : decoded rest ≡ good (code_of_2 (get_or rest 0 0) (get_or rest 1 0)) 2 =
    value-6 (length rest) (get_or rest 0 0) (get_or rest 1 0) (get_or rest 2 0) (get_or rest 3 0) (two, omega arith, omega arith, is_second) in
    reads text at (code_of_2 (byte_at text at) (byte_at text (at + 1))) 2 inside
    (ap decoded (rest-of text at) ∙ read ∙ ap (λ b. good (code_of_2 b (get_or rest 1 0)) 2) first ∙ ap (λ c. good (code_of_2 (byte_at text at) c) 2) next)

-- where the scalar ends that the byte before a place is of
pub end-low : (text : List ℕ) (place : ℕ) → byte_at text (place - 1) < 192 → end_at text place ≡ place
unfolding end_at
end-low text place low = cond-false (leb 192 (byte_at text (place - 1))) (place + 1) place (lt-leb 192 (byte_at text (place - 1)) low)

pub end-high : (text : List ℕ) (place : ℕ) → 192 ≤ byte_at text (place - 1) → end_at text place ≡ place + 1
unfolding end_at
end-high text place high = cond-true (leb 192 (byte_at text (place - 1))) (place + 1) place (le-leb 192 (byte_at text (place - 1)) high)

-- a byte begins a scalar of one or more, or goes on with one
pub begins-or : (byte : ℕ) → ((byte < 128) ⊎ (192 ≤ byte)) ⊎ ((128 ≤ byte) × (byte < 192))
begins-or byte =
    ⊎_elim (λ (low : byte < 128). inl (inl low))
    (λ (least : 128 ≤ byte). ⊎_elim (λ (below : byte < 192). inr (least, below)) (λ (high : 192 ≤ byte). inl (inr high)) (cases_lt byte 192))
    (cases_lt byte 128)

-- the place of the row here is that of the row of the byte before
pub rest-row : (pairs : Neighbours) (here : FillState) (text : List ℕ) → IsPlace here.row → Rests pairs here text → here.row ≡ row_before pairs text here.at
rest-row pairs here text is_place rests = place-same here.row is_place ∙ ap place_by rests.row

-- a call stands at a place behind whole scalars, with the row of the byte before
pub arrive : (profile : Profile) (cell : ℕ → Cell) (text more : List ℕ) (all : Ahead) (pairs : Neighbours) (out : List RawBreak) (count row at place : ℕ)
    → row ≡ row_before pairs text at → end_at text place ≡ at
    → Reached profile cell (text ++ more) all (record { count = count; row = row; at = at }) (given_in out count)
    → Reached profile cell (text ++ more) all (place_at pairs text count place) (given_in out count)
arrive profile cell text more all pairs out count row at place is_row ends r =
    subst (λ p. Reached profile cell (text ++ more) all (record { count = count; row = row_before pairs text p; at = p }) (given_in out count)) (sym ends)
    (subst (λ w. Reached profile cell (text ++ more) all (record { count = count; row = w; at = at }) (given_in out count)) is_row r)

pub depart : (profile : Profile) (cell : ℕ → Cell) (text more : List ℕ) (all : Ahead) (pairs : Neighbours) (out : List RawBreak) (count at place : ℕ)
    → end_at text place ≡ at
    → Reached profile cell (text ++ more) all (place_at pairs text count place) (given_in out count)
    → Reached profile cell (text ++ more) all (record { count = count; row = row_before pairs text at; at = at }) (given_in out count)
depart profile cell text more all pairs out count at place ends r =
    subst (λ p. Reached profile cell (text ++ more) all (record { count = count; row = row_before pairs text p; at = p }) (given_in out count)) ends r

-- the byte of a scalar of two that goes on with it
pub stay : (profile : Profile) (cell : ℕ → Cell) (text more : List ℕ) (all : Ahead) (pairs : Neighbours) (out : List RawBreak) (count place : ℕ)
    → 192 ≤ byte_at text (place - 1) → byte_at text place < 192
    → Reached profile cell (text ++ more) all (place_at pairs text count place) (given_in out count)
    → Reached profile cell (text ++ more) all (place_at pairs text count (place + 1)) (given_in out count)
stay profile cell text more all pairs out count place high low r =
    let back : byte_at text (place + 1 - 1) < 192 = subst (λ n. byte_at text n < 192) (let e : place ≡ place + 1 - 1 = omega arith in e) low in
    arrive profile cell text more all pairs out count (row_before pairs text (place + 1)) (place + 1) (place + 1) refl (end-low text (place + 1) back)
    (depart profile cell text more all pairs out count (place + 1) place (end-high text place high) r)

-- one scalar more, whatever stands before it
pub scalar-more : (profile : Profile) (cell : ℕ → Cell) (text more : List ℕ) (all : Ahead) (steps : List (List Step)) (kinds : List ℕ) (pairs : Neighbours)
    (out after : List RawBreak) (count next at : ℕ)
    → steps ≡ steps_in profile → AreFlatKinds kinds cell → at < length text
    → (byte_at text at < 128) ⊎ (192 ≤ byte_at text at) → IsByteTold steps kinds pairs text at
    → (given_in after next ≡ given_in out count ++ with_break at (verdict_shown (step_behind steps kinds pairs (byte_at text (at - 1)) (byte_at text at)).shown) [])
    → Reached profile cell (text ++ more) all (place_at pairs text count at) (given_in out count)
    → Reached profile cell (text ++ more) all (place_at pairs text next (at + 1)) (given_in after next)
scalar-more profile cell text more all steps kinds pairs out after count next at swift are_kinds inside begins told front r =
    let byte = byte_at text at in
    let step = step_behind steps kinds pairs (byte_at text (at - 1)) byte in
    let back : at ≡ at + 1 - 1 = omega arith in
    let before = told.settled begins in
    let settled = before.1 in
    let row = row_before pairs text at in
    let begins_row = (swift-step profile steps row (get_or kinds byte 0) swift (place-any (get_or pairs.rows (byte_at text (at - 1)) 0))).begins in
    let leads = place-same step.next begins_row ∙ ap place_by settled.leads in
    let begun = depart profile cell text more all pairs out count at at (end-low text at before.0) r in
    ⊎_elim
    (λ (low : byte < 128).
    let moved = Reached-swift profile cell (text ++ more) all steps kinds out after count next (row_before pairs text at) at byte 1 step swift are_kinds
    (reads-more text more at byte 1 inside (ascii-reads text at inside low)) (omega (arith, inside, length-append text more)) refl settled.apart front begun in
    let behind : byte_at text (at + 1 - 1) < 192 = subst (λ n. byte_at text n < 192) back (omega arith) in
    arrive profile cell text more all pairs after next step.next (at + 1) (at + 1) (leads ∙ ap (λ n. row_behind pairs (byte_at text n)) back)
    (end-low text (at + 1) behind) moved)
    (λ (stands : StandsForAll kinds pairs.rows pairs.sets byte).
    let range = stands.begins in
    let high : 192 ≤ byte = omega arith in
    let goes_on = told.goes_on high in
    let last = byte_at text (at + 1) in
    let least = goes_on.least in
    let below = goes_on.below in
    let each : StandsFor kinds pairs.rows pairs.sets byte (last - 128) = stands.each (last - 128) (omega arith) in
    let moved = Reached-swift profile cell (text ++ more) all steps kinds out after count next (row_before pairs text at) at (code_of_2 byte last) 2 step swift are_kinds
    (reads-more text more at (code_of_2 byte last) 2 inside (two-reads text at inside range.0 range.1 goes_on)) (omega (arith, inside, length-append text more))
    (ap (λ k. step_by steps (row_before pairs text at) k) (sym each.alike)) settled.apart front begun in
    let last_is : 128 + (last - 128) ≡ last = omega arith in
    let row : step.next ≡ row_before pairs text (at + 2) =
    leads ∙ ap place_by (sym each.leads) ∙ ap (row_behind pairs) last_is ∙ ap (λ n. row_behind pairs (byte_at text n)) (let e : at + 1 ≡ at + 2 - 1 = omega arith in e) in
    arrive profile cell text more all pairs after next step.next (at + 2) (at + 1) row
    (end-high text (at + 1) (subst (λ n. 192 ≤ byte_at text n) back high) ∙ (let e : at + 1 + 1 ≡ at + 2 = omega arith in e)) moved)
    settled.begins
