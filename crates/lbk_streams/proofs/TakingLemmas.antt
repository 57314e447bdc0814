-- Steps one after another, and what calls do that take units of a piece.
use Rattle.std.proofs.Common.{◌≡◌, ℕ, ◌+◌, ◌%◌, ◌^◌, ◌<◌, ◌≤◌, Bool, true, false, cond, min, List, length, sym, ap, ◌∙◌, arith}
use Rattle.std.proofs.lemmas.Bool.{false≢true}
use Rattle.bstr.specs.Utf8.{Decoded}
use Rattle.lbk_rules.specs.declared.neighbours.Neighbours.{Neighbours}
use Rattle.lbk_values.specs.declared.profile.Profile.{Profile}
use Rattle.lbk_bytes.specs.declared.raw_break.RawBreak.{RawBreak}
use Rattle.lbk_streams.specs.declared.stream.Cut.{Cut}
use Rattle.lbk_streams.specs.declared.stream.Feeding.{Feeding}
use Rattle.lbk_streams.specs.declared.stream.StreamPosition.{StreamPosition}
use Rattle.lbk_streams.specs.declared.taking.Step.{Step}
use Rattle.lbk_bytes.specs.Order.{AreBreaks}
use Rattle.lbk_streams.specs.Stands.{IsPlaced}
use Rattle.lbk_streams.specs.Taking.{Steps, Takes, TakesOf, taken_by}

pub takes-one : (step : Step) → step.passed ≡ true → taken_by step ≡ 1
takes-one step passed = let of : Bool → ℕ = λ b. cond b 1 0 in ap of passed

pub takes-none : (step : Step) → step.passed ≡ false → taken_by step ≡ 0
takes-none step stays = let of : Bool → ℕ = λ b. cond b 1 0 in ap of stays

-- a step that writes no break
pub Steps-still : (size : ℕ) (block : List RawBreak) (count : ℕ) (place next : StreamPosition) (passed : Bool) → count ≤ length block
    → min next.held_code 1 ≤ min place.held_code 1 + cond passed 1 0 → next.at ≡ cond passed ((place.at + size) % 2 ^ 64) place.at
    → ((from : ℕ) → (passed ≡ true → (0 < size) × (place.at + size < 2 ^ 64)) → IsPlaced block count from place → IsPlaced block count from next)
    → Steps size block count place block (record { place = next; count = count; passed = passed })
Steps-still size block count place next passed within few at placed = record {
  within = (omega arith, within);
  breaks = λ all. all;
  few = omega arith;
  at = at;
  placed = placed;
}

-- and one that writes a break at most, at a position that waits no more or before the scalar that it takes
pub Steps-put : (size : ℕ) (old : List RawBreak) (count : ℕ) (place : StreamPosition) (new : List RawBreak) (more : ℕ) (next : StreamPosition) (passed : Bool)
    → (more ≤ length old) × (count ≤ more) × (more ≤ count + 1) → (AreBreaks old count → AreBreaks new more)
    → 1 + min next.held_code 1 ≤ min place.held_code 1 + cond passed 1 0 → next.at ≡ cond passed ((place.at + size) % 2 ^ 64) place.at
    → ((from : ℕ) → (passed ≡ true → (0 < size) × (place.at + size < 2 ^ 64)) → IsPlaced old count from place → IsPlaced new more from next)
    → Steps size old count place new (record { place = next; count = more; passed = passed })
Steps-put size old count place new more next passed within breaks few at placed = record {
  within = (within.1, within.0);
  breaks = breaks;
  few = omega (arith, within.2);
  at = at;
  placed = placed;
}

-- a step that takes nothing is one at a scalar of any size
pub Steps-none : (size : ℕ) (old new : List RawBreak) (count : ℕ) (place : StreamPosition) (step : Step) → step.passed ≡ false
    → Steps 0 old count place new step → Steps size old count place new step
Steps-none size old new count place step none s = record {
  within = s.within;
  breaks = s.breaks;
  few = s.few;
  at = s.at ∙ ap (λ b. cond b ((place.at + 0) % 2 ^ 64) place.at) none
      ∙ sym (ap (λ b. cond b ((place.at + size) % 2 ^ 64) place.at) none);
  placed = λ from fits p. s.placed from (λ is. absurd (false≢true (sym none ∙ is))) p;
}

-- and another may follow it
pub Steps-then : (size : ℕ) (old mid new : List RawBreak) (count : ℕ) (place : StreamPosition) (met step : Step)
    → length mid ≡ length old → met.passed ≡ false
    → Steps 0 old count place mid met → Steps size mid met.count met.place new step → Steps size old count place new step
Steps-then size old mid new count place met step long none s t =
    let at : met.place.at ≡ place.at = s.at ∙ ap (λ b. cond b ((place.at + 0) % 2 ^ 64) place.at) none in
    let nothing = takes-none met none in
    record {
      within = (omega (arith, s.within.0, t.within.0), omega (arith, t.within.1, long));
      breaks = λ all. t.breaks (s.breaks all);
      few = omega (arith, s.few, t.few, nothing);
      at = t.at ∙ ap (λ n. cond step.passed ((n + size) % 2 ^ 64) n) at;
      placed = λ from fits p.
          t.placed from (λ is. let fit = fits is in (fit.0, omega (arith, fit.1, at)))
          (s.placed from (λ is. absurd (false≢true (sym none ∙ is))) p);
    }

-- a call after a step that leaves these units cut, where so many units more are taken as scalars
Takes-step : {A : Type 0} (widest end size moved : ℕ) (old : List RawBreak) (here : Feeding A) (new : List RawBreak) (step : Step) (cut : Cut A) (taken : ℕ)
    → Steps size old here.count here.place new step → taken_by step ≤ moved
    → (here.place.at + moved < 2 ^ 64 → step.place.at ≡ here.place.at + moved)
    → (here.place.at + moved < 2 ^ 64 → step.passed ≡ true → (0 < size) × (here.place.at + size < 2 ^ 64))
    → cut.size ≤ widest → taken ≤ end → cut.size + here.taken + moved ≡ here.cut.size + taken
    → Takes widest end old here new (record { place = step.place; cut = cut; taken = taken; count = step.count })
Takes-step widest end size moved old here new step cut taken s least at fits narrow within left = record {
  cut = narrow;
  room = s.within.1;
  breaks = s.breaks;
  counted = omega (arith, s.few);
  ordered = λ base from short o.
      let seen = o.seen in
      let below : here.place.at + moved < 2 ^ 64 = omega arith in
      let next = at below in
      record { seen = omega arith; placed = s.placed from (fits below) o.placed };
}

-- where it takes the scalar, and where it does not
pub Takes-one : {A : Type 0} (widest end size : ℕ) (old : List RawBreak) (here : Feeding A) (new : List RawBreak) (step : Step) (cut : Cut A) (taken : ℕ)
    → Steps size old here.count here.place new step → step.passed ≡ true → 0 < size
    → cut.size ≤ widest → taken ≤ end → cut.size + here.taken + size ≡ here.cut.size + taken
    → Takes widest end old here new (record { place = step.place; cut = cut; taken = taken; count = step.count })
Takes-one widest end size old here new step cut taken s passed some =
    let one = takes-one step passed in
    let at = s.at ∙ ap (λ b. cond b ((here.place.at + size) % 2 ^ 64) here.place.at) passed in
    Takes-step widest end size size old here new step cut taken s (omega arith) (λ below. omega arith) (λ below _. (some, below))

pub Takes-none : {A : Type 0} (widest end size : ℕ) (old : List RawBreak) (here : Feeding A) (new : List RawBreak) (step : Step) (cut : Cut A) (taken : ℕ)
    → Steps size old here.count here.place new step → step.passed ≡ false
    → cut.size ≤ widest → taken ≤ end → cut.size + here.taken ≡ here.cut.size + taken
    → Takes widest end old here new (record { place = step.place; cut = cut; taken = taken; count = step.count })
Takes-none widest end size old here new step cut taken s stays narrow within left =
    let none = takes-none step stays in
    let at = s.at ∙ ap (λ b. cond b ((here.place.at + size) % 2 ^ 64) here.place.at) stays in
    Takes-step widest end size 0 old here new step cut taken s (omega arith) (λ below. omega arith) (λ below is. absurd (false≢true (sym stays ∙ is)))
    narrow within (omega arith)

-- up to a later unit
pub Takes-wider : {A : Type 0} (widest low high : ℕ) (old : List RawBreak) (start : Feeding A) (new : List RawBreak) (result : Feeding A)
    → low ≤ high → Takes widest low old start new result → Takes widest high old start new result
Takes-wider widest low high old start new result wider t = record {
  cut = t.cut;
  room = t.room;
  breaks = t.breaks;
  counted = t.counted;
  ordered = λ base from fits o. t.ordered base from (omega arith) o;
}

-- a call after another
pub Takes-then : {A : Type 0} (widest end : ℕ) (old : List RawBreak) (start : Feeding A) (mid : List RawBreak) (here : Feeding A) (new : List RawBreak) (result : Feeding A)
    → length mid ≡ length old → Takes widest end old start mid here → Takes widest end mid here new result → Takes widest end old start new result
Takes-then widest end old start mid here new result long s t = record {
  cut = t.cut;
  room = omega (arith, t.room, long);
  breaks = λ all. t.breaks (s.breaks all);
  counted = omega (arith, s.counted, t.counted);
  ordered = λ base from fits o. t.ordered base from fits (s.ordered base from fits o);
}

pub TakesOf-then : {A : Type 0} (pieces_of : List A → List Decoded) (widest : ℕ) (kinds : List ℕ) (pairs : Neighbours) (profile : Profile) (piece : List A)
    (old : List RawBreak) (start : Feeding A) (mid : List RawBreak) (here : Feeding A) (new : List RawBreak) (result : Feeding A)
    → length mid ≡ length old
    → TakesOf pieces_of widest kinds pairs profile piece old start mid here → TakesOf pieces_of widest kinds pairs profile piece mid here new result
    → TakesOf pieces_of widest kinds pairs profile piece old start new result
TakesOf-then pieces_of widest kinds pairs profile piece old start mid here new result long s t = record {
  takes = Takes-then widest (length piece) old start mid here new result long s.takes t.takes;
  within = (omega (arith, s.within.0, t.within.0), t.within.1);
  feeds = λ cell more flat base all feeds. t.feeds cell more flat base all (s.feeds cell more flat base all feeds);
}
