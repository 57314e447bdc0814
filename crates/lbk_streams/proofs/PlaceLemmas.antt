-- Breaks in order in the front of a block, and the place that comes next.
use Rattle.std.proofs.Common.{◌≡◌, ℕ, zero, suc, add-one, refl, map, [], ◌∷◌, ◌+◌, ◌-◌, ◌%◌, ◌^◌, ◌<◌, ◌≤◌, ◌==◌, false, cond, ⊎_elim, List, ◌++◌, length, take, get_or, length-take-le, sym, ap, subst, ◌∙◌, arith}
use Rattle.std.proofs.lemmas.Bool.{cases_lt}
use Rattle.std.proofs.lemmas.Bool.Decides.{nat_tests}
use Rattle.std.proofs.lemmas.List.{get_or_append_left, get_or-append_right, get_or-take, map-append, take_more}
use Rattle.lbk_rules.specs.declared.Break.{Break}
use Rattle.lbk_bytes.specs.declared.raw_break.RawBreak.{RawBreak}
use Rattle.lbk_bytes.specs.Order.{AreInOrder, IsBreak, no_break}
use Rattle.lbk_bytes.specs.Reached.{IsInOrder}
use Rattle.lbk_bytes.specs.Shown.{given_in, shown}
use Rattle.lbk_bytes.proofs.OrderLemmas.{AreInOrder-none, AreInOrder-wider}
use Rattle.lbk_streams.specs.declared.stream.Feeding.{Feeding}
use Rattle.lbk_streams.specs.declared.stream.StreamPosition.{StreamPosition}
use Rattle.lbk_streams.specs.declared.stream.Stream.{Stream}
use Rattle.lbk_rules.specs.Joins.{moved}
use Rattle.lbk_streams.specs.Stands.{IsOrdered, IsPlaced}
use Rattle.lbk_streams.specs.Streams.{cut_units, next_place, place_of}
use Rattle.lbk_streams.proofs.BreakLemmas.{AreBreaks-behind}

-- The place that comes next

pub next-free : (place : StreamPosition) → place.held_code ≡ 0 → next_place place ≡ place.at
next-free place free = ap (λ n. cond (n == 0) place.at place.held_at) free

pub next-held : (place : StreamPosition) → 0 < place.held_code → next_place place ≡ place.held_at
next-held place held =
    let waits : (place.held_code == 0) ≡ false = grind (arith, nat_tests) in
    ap (λ b. cond b place.at place.held_at) waits

pub next-within : (place : StreamPosition) → (0 < place.held_code → place.held_at < place.at) → next_place place ≤ place.at
next-within place waits =
    ⊎_elim (λ (held : 0 < place.held_code). omega (arith, next-held place held, waits held))
    (λ (free : place.held_code ≤ 0). omega (arith, next-free place (omega arith)))
    (cases_lt 0 place.held_code)

-- none comes before the place where a stream stands, if none waits
pub IsInOrder-at : (block : List RawBreak) (count from : ℕ) (place : StreamPosition) → IsPlaced block count from place → IsInOrder block count from place.at
IsInOrder-at block count from place p =
    let within = next-within place p.waits in
    (omega (arith, p.order.0, within), AreInOrder-wider block count from (next_place place) place.at within p.order.1)

-- where none waits, what is in order up to a place is so up to the next
pub IsPlaced-free : (block : List RawBreak) (count from at : ℕ) (place : StreamPosition) → place.held_code ≡ 0 → at ≤ place.at → IsInOrder block count from at → IsPlaced block count from place
IsPlaced-free block count from at place free on order =
    let next = next-free place free in
    record {
      waits = λ held. absurd (omega arith);
      order = (omega (arith, order.0, next), AreInOrder-wider block count from at (next_place place) (omega (arith, next)) order.1);
    }

-- and where one waits at that place or behind it
pub IsPlaced-held : (block : List RawBreak) (count from : ℕ) (place : StreamPosition) → place.held_at < place.at → IsInOrder block count from place.held_at → IsPlaced block count from place
IsPlaced-held block count from place before order =
    ⊎_elim (λ (held : 0 < place.held_code).
    (let next = next-held place held in
    record {
      waits = λ _. before;
      order = (omega (arith, order.0, next), AreInOrder-wider block count from place.held_at (next_place place) (omega (arith, next)) order.1);
    }))
    (λ (free : place.held_code ≤ 0). IsPlaced-free block count from place.held_at place (omega arith) (omega (arith, before)) order)
    (cases_lt 0 place.held_code)

-- Places moved

abbrev pub moved_raw : ℕ → RawBreak → RawBreak
moved_raw by raw = record { at = (raw.at + by) % 2 ^ 64; kind = raw.kind; rule = raw.rule }

abbrev moved_wrapped : ℕ → Break → Break
moved_wrapped by found = record { at = (found.at + by) % 2 ^ 64; kind = found.kind; rule = found.rule }

-- where none wraps, they are moved
pub given-moved : (old new : List RawBreak) (count by : ℕ) → count ≤ length old → count ≤ length new
    → ((k : ℕ) → k < count → get_or new k no_break ≡ moved_raw by (get_or old k no_break)) → ((k : ℕ) → k < count → (get_or old k no_break).at + by < 2 ^ 64)
    → given_in new count ≡ map (moved by) (given_in old count)
given-moved old new zero by old_long new_long same small = refl
given-moved old new (suc k) by old_long new_long same small =
    let one = get_or old k no_break in
    let before = map (moved by) (given_in old k) in
    let fits = small k (omega arith) in
    let place : (one.at + by) % 2 ^ 64 ≡ by + one.at = omega arith in
    ap (given_in new) (sym (add-one k))
    ∙ ap (map shown) (take_more new k no_break (omega arith)) ∙ map-append shown (take k new) (get_or new k no_break ∷ [])
    ∙ ap (λ l. l ++ shown (get_or new k no_break) ∷ []) (given-moved old new k by (omega arith) (omega arith) (λ j few. same j (omega arith)) (λ j few. small j (omega arith)))
    ∙ ap (λ (r : RawBreak). before ++ shown r ∷ []) (same k (omega arith))
    ∙ ap (λ n. before ++ shown (record { at = n; kind = one.kind; rule = one.rule }) ∷ []) place
    ∙ sym (map-append (moved by) (given_in old k) (shown one ∷ []))
    ∙ ap (map (moved by)) (sym (map-append shown (take k old) (one ∷ [])))
    ∙ ap (λ xs. map (moved by) (map shown xs)) (sym (take_more old k no_break (omega arith)))
    ∙ ap (λ n. map (moved by) (given_in old n)) (add-one k)

pub AreInOrder-moved : (old new : List RawBreak) (count by from to : ℕ) → ((k : ℕ) → k < count → get_or new k no_break ≡ moved_raw by (get_or old k no_break))
    → to + by ≤ 2 ^ 64 → AreInOrder old count from to → AreInOrder new count (from + by) (to + by)
AreInOrder-moved old new count by from to same fits o =
    let place : (k : ℕ) → k < count → (get_or new k no_break).at ≡ (get_or old k no_break).at + by =
    λ k few. let is = ap (λ (b : RawBreak). b.at) (same k few) in let w = o.within k few in omega (arith, is, w.1) in
    record {
      each = λ k few. let is = o.each k few in subst IsBreak (sym (same k few)) (moved_wrapped by is.0, ap (moved_raw by) is.1, is.2);
      within = λ k few. let w = o.within k few in let p = place k few in (omega (arith, w.0, p), omega (arith, w.1, p));
      rising = λ k few j before. let r = o.rising k few j before in let p = place k few in let q = place j (omega arith) in omega (arith, r, p, q);
    }

-- Some breaks, and others behind them

module _ (out room others : List RawBreak) (count more : ℕ) (within : count ≤ length out) (few : more ≤ length room) where
  in_front : (k : ℕ) → k < count → get_or (take count out ++ (room ++ others)) k no_break ≡ get_or out k no_break
  in_front k before =
      let long : length (take count out) ≡ count = length-take-le count out within in
      get_or_append_left (take count out) (room ++ others) no_break k (omega arith) ∙ get_or-take count out k no_break before

  behind : (k : ℕ) → count ≤ k → k < count + more → get_or (take count out ++ (room ++ others)) k no_break ≡ get_or room (k - count) no_break
  behind k on inside =
      let long : length (take count out) ≡ count = length-take-le count out within in
      get_or-append_right (take count out) (room ++ others) count k no_break long on ∙ get_or_append_left room others no_break (k - count) (omega arith)

  pub AreInOrder-behind : (from seam to : ℕ) → from ≤ seam → seam ≤ to → AreInOrder out count from seam → AreInOrder room more seam to
      → AreInOrder (take count out ++ (room ++ others)) (count + more) from to
  AreInOrder-behind from seam to low high front back =
      let first : (k : ℕ) → k < count → (get_or (take count out ++ (room ++ others)) k no_break).at ≡ (get_or out k no_break).at =
      λ k before. ap (λ (b : RawBreak). b.at) (in_front k before) in
      let last : (k : ℕ) → count ≤ k → k < count + more → (get_or (take count out ++ (room ++ others)) k no_break).at ≡ (get_or room (k - count) no_break).at =
      λ k on inside. ap (λ (b : RawBreak). b.at) (behind k on inside) in
      record {
        each = AreBreaks-behind out room others count more within few front.each back.each;
        within = λ k inside.
            ⊎_elim (λ (before : k < count).
            (let w = front.within k before in let p = first k before in (omega (arith, w.0, p), omega (arith, w.1, p))))
            (λ (on : count ≤ k).
            (let w = back.within (k - count) (omega arith) in let p = last k on inside in (omega (arith, w.0, p), omega (arith, w.1, p))))
            (cases_lt k count);
        rising = λ k inside j earlier.
            ⊎_elim (λ (before : k < count).
            (let r = front.rising k before j earlier in let p = first k before in let q = first j (omega arith) in omega (arith, r, p, q)))
            (λ (on : count ≤ k).
            ⊎_elim (λ (front_j : j < count).
            (let w = front.within j front_j in let v = back.within (k - count) (omega arith) in let p = last k on inside in let q = first j front_j in omega (arith, w.1, v.0, p, q)))
            (λ (on_j : count ≤ j).
            (let r = back.rising (k - count) (omega arith) (j - count) (omega arith) in let p = last k on inside in let q = last j on_j (omega arith) in omega (arith, r, p, q)))
            (cases_lt j count))
            (cases_lt k count);
      }

-- A call at its start

pub IsOrdered-start : {A : Type 0} (block : List RawBreak) (carried : List ℕ → List A) (stream : Stream) (start : Feeding A) → start.place ≡ place_of stream → start.cut.size ≡ length (cut_units carried stream) → start.taken ≡ 0 → start.count ≡ 0
    → (0 < stream.held_code → stream.held_at < stream.at)
    → IsOrdered block (stream.at + length (cut_units carried stream)) (next_place (place_of stream)) start
IsOrdered-start block carried stream start stands cut fresh none waits =
    let from = next_place (place_of stream) in
    let at = ap (λ (p : StreamPosition). p.at) stands in
    let placed : IsPlaced block 0 from (place_of stream) = record { waits = waits; order = (omega arith, AreInOrder-none block from from) } in
    record {
      seen = omega (arith, at, cut, fresh);
      placed = subst (λ n. IsPlaced block n from start.place) (sym none) (subst (λ (p : StreamPosition). IsPlaced block 0 from p) (sym stands) placed);
    }
