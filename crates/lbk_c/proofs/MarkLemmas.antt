-- The bits of the breaks to come.
use Rattle.std.proofs.Common.{◌≡◌, ℕ, ◌+◌, ◌*◌, ◌<◌, ◌≤◌, ◌||◌, Bool, List, [], ◌++◌, length, drop, sym, ap, subst, ◌∙◌, inl, inr, arith}
use Rattle.std.proofs.Math.Seq.{drop-length}
use Rattle.bstr.specs.Utf8.{pieces}
use Rattle.bstr.proofs.lemmas.PieceLemmas.{pieces-nil}
use Rattle.lbk_rules.specs.declared.Break.{Break}
use Rattle.lbk_rules.specs.declared.Cell.{Cell}
use Rattle.lbk_values.specs.declared.profile.Profile.{Profile}
use Rattle.lbk_rules.specs.declared.neighbours.Neighbours.{Neighbours}
use Rattle.lbk_rules.specs.FlatTable.{IsFlatBy, KnowsTaken}
use Rattle.lbk_bytes.specs.declared.fill_state.FillState.{FillState}
use Rattle.lbk_bytes.specs.Bytes.{end_in}
use Rattle.lbk_bytes.specs.Marking.{Marked, uncounted}
use Rattle.lbk_bytes.specs.Marks.{boundary_from, from_on, is_marked, stands_among}
use Rattle.lbk_bytes.specs.Reached.{Onward, onward_to}
use Rattle.lbk_bytes.proofs.BoundaryLemmas.{boundary-end, boundary-here}
use Rattle.lbk_bytes.proofs.MarkLemmas.{among-append, below-wider, or-false}
use Rattle.lbk_bytes.proofs.MarkPlaceLemmas.{end-below, from-none, from-wider, left-behind, left-from, left-past, onward-from}
use Rattle.lbk_calls.specs.declared.interface.State.{State}
use Rattle.lbk_units.specs.Reached.{UnitsReachedBy, on_from}
use Rattle.lbk_calls.specs.Coming.{IsGoing, IsSpent, MarksBy, UnitsComeBy, from_state}
use Rattle.lbk_calls.specs.State.{plain, profile_numbered}
use Rattle.lbk_calls.proofs.ComingLemmas.{same-profile, spent-ended}
use Rattle.lbk_calls.proofs.UnitsComingLemmas.{onto-end, onto-here}

-- the words are told before the text's end
pub Marks-full : (goes_on : Bool) (profile : Profile) (cell : ℕ → Cell) (text : List ℕ) (to_come : List Break) (place stop : ℕ) (here : FillState) (state : State) (words : List ℕ)
    → Marked profile cell text (record { breaks = to_come; end = end_in goes_on }) place stop here words
    → stop ≡ place + 64 * length words → place + 64 * length words ≤ here.at → here.at ≤ length text
    → state.at ≡ here.at → state.row ≡ here.row → state.ended ≡ 0
    → MarksBy (onward_to (end_in goes_on)) profile cell text to_come place state words
Marks-full goes_on profile cell text to_come place stop here state words m is_stop past within at_same row_same unended =
    let end = end_in goes_on in
    let r = m.reached in
    let room = place + 64 * length words in
    let rest = onward_to end profile cell r.taken here.at (pieces (drop here.at text)) in
    let from = onward-from goes_on profile cell r.taken here.at (pieces (drop here.at text)) in
    record {
      bits = λ i h.
          m.marked i h
          ∙ sym (or-false (stands_among (place + i) m.given) (stands_among (place + i) rest) (from-none here.at (place + i) rest from (omega arith)))
          ∙ sym (among-append (place + i) m.given rest)
          ∙ ap (stands_among (place + i)) (sym r.joined);
      onto =
          onto-here (onward_to end) pieces profile cell text to_come m.given _ (uncounted here) state (record { taken = r.taken; knows = r.knows; some = r.some; joined = r.joined })
          (ap (from_on room) r.joined
          ∙ left-behind room m.given rest (below-wider stop room m.given (omega arith) m.below)
          ∙ left-from room rest (from-wider room here.at rest past from))
          within at_same row_same unended;
      boundary = at_same ∙ sym (boundary-here text here.at room past) ∙ ap (boundary_from text here.at) (sym is_stop) ∙ m.boundary ∙ ap (boundary_from text place) is_stop;
    }

-- they are told up to the end, and it too
pub Marks-ended : (goes_on : Bool) (profile : Profile) (cell : ℕ → Cell) (text : List ℕ) (to_come : List Break) (place stop : ℕ) (here : FillState) (state : State) (old new : List ℕ)
    → Marked profile cell text (record { breaks = to_come; end = end_in goes_on }) place stop here old
    → length new ≡ length old → stop ≤ place + 64 * length new → here.at ≡ length text → place ≤ length text → length text < place + 64 * length new
    → ((taken : List ℕ) → KnowsTaken cell here.row taken → (0 < here.row → 0 < length taken)
    → (i : ℕ) → is_marked new i ≡ (is_marked old i || stands_among (place + i) (end_in goes_on profile cell taken (length text))))
    → state.at ≡ here.at → state.ended ≡ 1
    → MarksBy (onward_to (end_in goes_on)) profile cell text to_come place state new
Marks-ended goes_on profile cell text to_come place stop here state old new m same few ends within inside put at_same ended =
    let end = end_in goes_on in
    let r = m.reached in
    let room = place + 64 * length new in
    let last = end profile cell r.taken (length text) in
    let none_left : pieces (drop here.at text) ≡ [] = ap (λ n. pieces (drop n text)) ends ∙ ap pieces (drop-length text) ∙ pieces-nil in
    let all : to_come ≡ m.given ++ last =
    r.joined ∙ ap (λ ps. m.given ++ onward_to end profile cell r.taken here.at ps) none_left ∙ ap (λ n. m.given ++ end profile cell r.taken n) ends in
    record {
      bits = λ i h.
          put r.taken r.knows r.some i
          ∙ ap (λ b. b || stands_among (place + i) last) (m.marked i (omega arith))
          ∙ sym (among-append (place + i) m.given last)
          ∙ ap (stands_among (place + i)) (sym all);
      onto =
          onto-end (onward_to end) pieces profile cell text _ state (at_same ∙ ends) ended
          (ap (from_on room) all
          ∙ left-behind room m.given last (below-wider stop room m.given few m.below)
          ∙ left-past room last (end-below goes_on profile cell r.taken (length text) room inside));
      boundary = at_same ∙ ends ∙ sym (boundary-end text place room (omega arith) (omega arith));
    }

-- what a call tells of the breaks to come
pub Comes-marks : (from : Onward) (profile : Profile) (cell : ℕ → Cell) (kinds : List ℕ) (pairs : Neighbours) (text : List ℕ) (place : ℕ) (old new : State) (to_come : List Break) (words : List ℕ)
    → ((cell : ℕ → Cell) (to_come : List Break) → IsFlatBy kinds pairs cell
    → UnitsReachedBy from profile cell (on_from pieces text) to_come (from_state old) []
    → MarksBy from profile cell text to_come place new words)
    → IsGoing profile old (length text) → (c : UnitsComeBy from pieces cell kinds pairs text old to_come)
    → MarksBy from profile cell text to_come place new words
Comes-marks from profile cell kinds pairs text place old new to_come words marks going c =
    let same = same-profile c.profile profile old c.named going.named in
    marks cell to_come c.flat
    (subst (λ p. UnitsReachedBy from p cell (on_from pieces text) to_come (from_state old) []) same (c.onto.goes_on going.unended))

-- and the others come from the next state on
pub Comes-behind : (from : Onward) (profile : Profile) (cell : ℕ → Cell) (kinds : List ℕ) (pairs : Neighbours) (text : List ℕ) (place : ℕ) (old new : State) (to_come : List Break) (words : List ℕ)
    → IsGoing profile old (length text) → new.profile ≡ old.profile → (c : UnitsComeBy from pieces cell kinds pairs text old to_come)
    → MarksBy from profile cell text to_come place new words
    → UnitsComeBy from pieces cell kinds pairs text new (from_on (place + 64 * length words) to_come)
Comes-behind from profile cell kinds pairs text place old new to_come words going kept c marks = record {
  profile = profile;
  named = ap profile_numbered kept ∙ going.named;
  flat = c.flat;
  onto = marks.onto;
}

pub never-spent : (state : State) (len : ℕ) → IsSpent (plain state) len → state.profile ≤ 3 → state.ended ≡ 0 → state.at ≤ len → ⊥
never-spent state len spent few unended within = (let ended = spent-ended state len spent few within in omega arith)

-- where something is to come, or nothing, a state that is spent has ended
pub Comes-unspent : (from : Onward) (cell : ℕ → Cell) (kinds : List ℕ) (pairs : Neighbours) (text : List ℕ) (state : State) (to_come : List Break)
    → IsSpent state (length text) → UnitsComeBy from pieces cell kinds pairs text state to_come → state.ended ≡ 0 → ⊥
Comes-unspent from cell kinds pairs text state to_come (inl unnamed) c unended = (let named = c.named in cc)
Comes-unspent from cell kinds pairs text state to_come (inr (inl ended)) c unended = omega arith
Comes-unspent from cell kinds pairs text state to_come (inr (inr past)) c unended = (let within = c.onto.within in omega arith)
