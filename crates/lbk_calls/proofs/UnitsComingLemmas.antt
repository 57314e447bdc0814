-- The breaks or the positions of a text of units from its start on, and some of them given.
use Rattle.std.proofs.Common.{Bool, ◌≡◌, ℕ, ◌<◌, ◌≤◌, false, true, inl, inr, List, [], ◌++◌, length, map, drop, refl, sym, ap, subst, ◌∙◌, arith, lit<}
use Rattle.std.specs.Str.{encode_utf8_all}
use Rattle.std.proofs.lemmas.List.{append-nil}
use Rattle.std.proofs.lemmas.Str.{chars-encodes}
use Rattle.std.proofs.Math.Seq.{drop-length}
use lib.Utf8.{scalars}
use Rattle.bstr.specs.Utf8.{Decoded, pieces}
use Rattle.lbk_rules.specs.declared.Break.{Break}
use Rattle.lbk_rules.specs.declared.Cell.{Cell}
use Rattle.lbk_rules.specs.declared.neighbours.Neighbours.{Neighbours}
use Rattle.lbk_values.specs.declared.profile.Profile.{Profile}
use Rattle.lbk_values.specs.declared.profile.Profile.TheVariants.{First, Second}
use Rattle.lbk_rules.specs.Breaks.{breaks}
use Rattle.lbk_rules.specs.Joins.{moved}
use Rattle.lbk_rules.specs.FlatTable.{IsFlatBy, KnowsTaken}
use Rattle.lbk_rules.specs.Rows.{IsPlace}
use Rattle.lbk_rules.proofs.FlatLemmas.{left-start}
use Rattle.lbk_bytes.specs.declared.fill_state.FillState.{FillState}
use Rattle.lbk_bytes.specs.declared.raw_break.RawBreak.{RawBreak}
use Rattle.lbk_bytes.specs.Bytes.{AtEnd, breaks_of_bytes, breaks_of_part, end_in}
use Rattle.lbk_bytes.specs.Order.{AreInOrderBy, IsBreak}
use Rattle.lbk_bytes.specs.Reached.{IsInOrderBy, Onward, ReachedBy, onward_all, onward_to, position_end_in}
use Rattle.lbk_bytes.specs.Shown.{given_in}
use Rattle.lbk_bytes.specs.Steps as step
use Rattle.lbk_units.specs.Encodings.{placed_in}
use Rattle.lbk_units.specs.Filling.{Fills}
use Rattle.lbk_units.specs.Reached.{UnitsReachedBy, on_from}
use Rattle.lbk_units.specs.Positions.{positions_of_part_of, positions_of_pieces}
use Rattle.lbk_units.specs.Units.{breaks_of_part_of, breaks_of_pieces, breaks_of_utf32}
use Rattle.lbk_units.proofs.PositionLemmas.{all-part, all-start, pieces-part}
use Rattle.lbk_units.proofs.EncodingLemmas as encoding
use Rattle.lbk_words.proofs.FillLemmas.{gives}
use Rattle.lbk_calls.specs.declared.interface.State.{State}
use Rattle.lbk_calls.specs.State.{goes_on, part_start, plain, plain_number, profile_number, profile_numbered, start_in}
use Rattle.lbk_calls.specs.Coming.{ComeOf, IsGoing, IsSpent, UnitsComeBy, UnitsGo, UnitsOnto, from_state, start_by}
use Rattle.lbk_calls.specs.Calls.{AreGivenWhole, BreaksComeAtStart, ComeAtStart, Gives, GoesOver}
use Rattle.lbk_calls.proofs.ComingLemmas.{breaks-utf8, same-profile}
use Rattle.lbk_calls.proofs.GoingLemmas.{over-none}
use Rattle.lbk_bytes.proofs.OrderLemmas.{AreInOrder-none}
use Rattle.lbk_bytes.proofs.PartLemmas.{part-onward}
use Rattle.lbk_bytes.proofs.ReachedLemmas.{given-many, onward-start, profile-same}

module _ {A : Type 0} (from : Onward) (pieces_of : List A → List Decoded) where
  units-begun : (cell : ℕ → Cell) (kinds : List ℕ) (pairs : Neighbours) (text : List A) (profile : Profile) (at : ℕ) (state : State) (to_come : List Break) → IsFlatBy kinds pairs cell → at ≤ length text
      → state ≡ record { at = at; row = 0; profile = profile_number profile; ended = 0 } → to_come ≡ from profile cell [] at (pieces_of (drop at text))
      → UnitsComeBy from pieces_of cell kinds pairs text state to_come
  units-begun cell kinds pairs text profile at state to_come flat within starts whole =
      subst (λ s. UnitsComeBy from pieces_of cell kinds pairs text s to_come) (sym starts) (record {
        profile = profile;
        named = profile-same profile;
        flat = flat;
        onto = record {
          within = within;
          goes_on = λ _. record {
            taken = [];
            knows = ((refl, lit< tt), left-start);
            some = λ more. absurd (omega arith);
            joined = whole;
          };
          none_come = λ more. absurd (omega arith);
        };
      })

  -- whatever stands before the state's place
  pub units-other : (cell : ℕ → Cell) (kinds : List ℕ) (pairs : Neighbours) (text other : List A) (state : State) (to_come : List Break)
      → UnitsComeBy from pieces_of cell kinds pairs text state to_come → state.at ≤ length other → drop state.at other ≡ drop state.at text
      → UnitsComeBy from pieces_of cell kinds pairs other state to_come
  units-other cell kinds pairs text other state to_come comes within same = record {
    profile = comes.profile;
    named = comes.named;
    flat = comes.flat;
    onto = record {
      within = within;
      goes_on = λ goes.
          let r = comes.onto.goes_on goes in
          record {
            taken = r.taken;
            knows = r.knows;
            some = r.some;
            joined = r.joined ∙ ap (λ units. from comes.profile cell r.taken state.at (pieces_of units)) (sym same);
          };
      none_come = comes.onto.none_come;
    };
  }

  -- a state stands where a call came to, and these are left
  pub onto-here : (profile : Profile) (cell : ℕ → Cell) (text : List A) (all given rest : List Break) (here : FillState) (state : State)
      → (r : UnitsReachedBy from profile cell (on_from pieces_of text) all here given) → rest ≡ from profile cell r.taken here.at (on_from pieces_of text here.at)
      → here.at ≤ length text → state.at ≡ here.at → state.row ≡ here.row → state.ended ≡ 0
      → UnitsOnto from pieces_of profile cell text state rest
  onto-here profile cell text all given rest here state r left within at_same row_same unended = record {
    within = omega arith;
    goes_on = λ _. record {
      taken = r.taken;
      knows = subst (λ n. KnowsTaken cell n r.taken) (sym row_same) r.knows;
      some = λ more. r.some (omega arith);
      joined = left ∙ ap (λ n. from profile cell r.taken n (on_from pieces_of text n)) (sym at_same);
    };
    none_come = λ ended. absurd (omega arith);
  }

  -- all were given, and the text is at its end
  pub onto-end : (profile : Profile) (cell : ℕ → Cell) (text : List A) (rest : List Break) (state : State)
      → state.at ≡ length text → state.ended ≡ 1 → rest ≡ [] → UnitsOnto from pieces_of profile cell text state rest
  onto-end profile cell text rest state ends ended none = record {
    within = omega arith;
    goes_on = λ unended. absurd (omega arith);
    none_come = λ _. none;
  }

  -- the block is full
  pub units-full : (profile : Profile) (cell : ℕ → Cell) (text : List A) (to_come : List Break) (here : FillState) (state : State) (block : List RawBreak) (room : ℕ)
      → UnitsReachedBy from profile cell (on_from pieces_of text) to_come here (given_in block here.count) → here.at ≤ length text → state.at ≡ here.at → state.row ≡ here.row
      → state.ended ≡ 0 → here.count ≤ length block → here.count ≡ room
      → UnitsGo from pieces_of profile cell text to_come state (given_in block here.count) here.count room
  units-full profile cell text to_come here state block room r within at_same row_same unended few full =
      let more = from profile cell r.taken here.at (on_from pieces_of text here.at) in
      let g = gives to_come (given_in block here.count) more here.count room r.joined (given-many block here.count few) (omega arith) (inl full) in
      record {
        counted = g.counted;
        front = g.same;
        onto = onto-here profile cell text to_come (given_in block here.count) _ here state r (sym g.left) within at_same row_same unended;
      }

  -- what comes at the end was put behind those that were given
  pub units-ended : (profile : Profile) (cell : ℕ → Cell) (text : List A) (to_come : List Break) (here : FillState) (state : State) (before block : List RawBreak)
      (count room : ℕ)
      → UnitsReachedBy from profile cell (on_from pieces_of text) to_come here (given_in before here.count) → here.at ≡ length text → state.at ≡ here.at → state.ended ≡ 1
      → ((taken : List ℕ) → KnowsTaken cell here.row taken → (0 < here.row → 0 < length taken)
      → given_in block count ≡ given_in before here.count ++ from profile cell taken (length text) (pieces_of []))
      → count ≤ length block → length block ≡ room
      → UnitsGo from pieces_of profile cell text to_come state (given_in block count) count room
  units-ended profile cell text to_come here state before block count room r ends at_same ended put few same_room =
      let none_left : pieces_of (drop here.at text) ≡ pieces_of [] = ap (λ n. pieces_of (drop n text)) ends ∙ ap pieces_of (drop-length text) in
      let all : to_come ≡ given_in block count =
      r.joined ∙ ap (λ ps. given_in before here.count ++ from profile cell r.taken here.at ps) none_left
      ∙ ap (λ n. given_in before here.count ++ from profile cell r.taken n (pieces_of [])) ends ∙ sym (put r.taken r.knows r.some) in
      let g = gives to_come (given_in block count) [] count room (all ∙ sym (append-nil (given_in block count))) (given-many block count few) (omega arith) (inr refl) in
      record {
        counted = g.counted;
        front = g.same;
        onto = onto-end profile cell text _ state (at_same ∙ ends) ended (sym g.left);
      }

  -- from a spent state nothing comes
  pub units-none : (cell : ℕ → Cell) (kinds : List ℕ) (pairs : Neighbours) (text : List A) (state : State) (to_come : List Break)
      → IsSpent state (length text) → UnitsComeBy from pieces_of cell kinds pairs text state to_come → to_come ≡ []
  units-none cell kinds pairs text state to_come (inl unnamed) c = absurd (let no : ⊥ = (let named = c.named in cc) in no)
  units-none cell kinds pairs text state to_come (inr (inl ended)) c = c.onto.none_come ended
  units-none cell kinds pairs text state to_come (inr (inr past)) c = absurd (let within = c.onto.within in omega arith)

  -- what a call gives of the breaks to come
  pub units-go : (profile : Profile) (cell : ℕ → Cell) (kinds : List ℕ) (pairs : Neighbours) (text : List A) (old new : State) (to_come given : List Break) (count room : ℕ)
      → ((cell : ℕ → Cell) (to_come : List Break) → IsFlatBy kinds pairs cell
      → UnitsReachedBy from profile cell (on_from pieces_of text) to_come (from_state old) []
      → UnitsGo from pieces_of profile cell text to_come new given count room)
      → IsGoing profile old (length text) → (c : UnitsComeBy from pieces_of cell kinds pairs text old to_come)
      → UnitsGo from pieces_of profile cell text to_come new given count room
  units-go profile cell kinds pairs text old new to_come given count room goes going c =
      let same = same-profile c.profile profile old c.named going.named in
      goes cell to_come c.flat
      (subst (λ p. UnitsReachedBy from p cell (on_from pieces_of text) to_come (from_state old) []) same (c.onto.goes_on going.unended))

  -- and the others come from the next state on
  pub units-next : (profile : Profile) (cell : ℕ → Cell) (kinds : List ℕ) (pairs : Neighbours) (text : List A) (old new : State) (to_come given : List Break) (count room : ℕ)
      → IsGoing profile old (length text) → new.profile ≡ old.profile → (c : UnitsComeBy from pieces_of cell kinds pairs text old to_come)
      → UnitsGo from pieces_of profile cell text to_come new given count room
      → UnitsComeBy from pieces_of cell kinds pairs text new (drop count to_come)
  units-next profile cell kinds pairs text old new to_come given count room going kept c goes = record {
    profile = profile;
    named = ap profile_numbered kept ∙ going.named;
    flat = c.flat;
    onto = goes.onto;
  }

-- at the start of a part of a text, after which the text goes on or ends, by what comes then
module _ {A : Type 0} (from_in : Bool → Onward) (pieces_of : List A → List Decoded) where
  pub units-part : (cell : ℕ → Cell) (kinds : List ℕ) (pairs : Neighbours) (text : List A) (goes : Bool) (profile : Profile) (at : ℕ) (state : State) (to_come : List Break) → IsFlatBy kinds pairs cell → at ≤ length text
      → state ≡ part_start goes profile at → to_come ≡ from_in goes profile cell [] at (pieces_of (drop at text))
      → UnitsComeBy (from_in (goes_on state.profile)) pieces_of cell kinds pairs text (plain state) to_come
  units-part cell kinds pairs text goes profile at state to_come flat within starts whole =
      subst (λ s. UnitsComeBy (from_in (goes_on s.profile)) pieces_of cell kinds pairs text (plain s) to_come) (sym starts) (flagged goes profile whole)
    where
      flagged : (goes : Bool) (profile : Profile) → to_come ≡ from_in goes profile cell [] at (pieces_of (drop at text))
          → UnitsComeBy (from_in (goes_on (part_start goes profile at).profile)) pieces_of cell kinds pairs text (plain (part_start goes profile at)) to_come
      flagged true First whole = units-begun (from_in true) pieces_of cell kinds pairs text First at _ to_come flat within refl whole
      flagged true Second whole = units-begun (from_in true) pieces_of cell kinds pairs text Second at _ to_come flat within refl whole
      flagged false First whole = units-begun (from_in false) pieces_of cell kinds pairs text First at _ to_come flat within refl whole
      flagged false Second whole = units-begun (from_in false) pieces_of cell kinds pairs text Second at _ to_come flat within refl whole

  pub units-start : (cell : ℕ → Cell) (kinds : List ℕ) (pairs : Neighbours) (text : List A) (profile : Profile) (state : State) (to_come : List Break) → IsFlatBy kinds pairs cell → state ≡ start_in profile
      → to_come ≡ from_in false profile cell [] 0 (pieces_of text)
      → UnitsComeBy (from_in (goes_on state.profile)) pieces_of cell kinds pairs text (plain state) to_come
  units-start cell kinds pairs text profile state to_come flat starts whole = units-part cell kinds pairs text false profile 0 state to_come flat (omega arith) starts whole

-- the breaks of scalars, by their places in UTF-8
pub breaks-scalars : (profile : Profile) (cell : ℕ → Cell) (cs : List ℕ) → scalars cs ≡ true
    → breaks profile cell cs ≡ map (placed_in encode_utf8_all cs) (breaks_of_utf32 profile cell cs)
breaks-scalars profile cell cs all =
    sym (breaks-utf8 profile cell (encode_utf8_all cs) (cs, (all, refl)) ∙ ap (λ l. breaks profile cell l) (chars-encodes cs all))
    ∙ encoding.breaks-utf8 profile cell cs all

-- all of a text come from the state at its start, and those of a part from the state there
module _ {A : Type 0} (onward : AtEnd → Onward) (end_in : Bool → AtEnd) (pieces_of : List A → List Decoded) (whole : Profile → (ℕ → Cell) → List A → List Break)
    (part_of : Bool → Profile → (ℕ → Cell) → List A → List Break) where
  pub come-at-start : ((profile : Profile) (cell : ℕ → Cell) (text : List A) → whole profile cell text ≡ onward (end_in false) profile cell [] 0 (pieces_of text))
      → ((goes : Bool) (profile : Profile) (cell : ℕ → Cell) (at : ℕ) (part : List A) → map (moved at) (part_of goes profile cell part) ≡ onward (end_in goes) profile cell [] at (pieces_of part))
      → (kinds : List ℕ) (pairs : Neighbours) (text : List A) (state : State) → ComeAtStart (ComeOf onward end_in pieces_of) whole part_of kinds pairs text state
  come-at-start is_whole is_part kinds pairs text state = record {
    start = λ cell profile flat starts. units-start (λ goes. onward (end_in goes)) pieces_of cell kinds pairs text profile state _ flat starts (is_whole profile cell text);
    part = λ cell profile goes at flat within starts.
        units-part (λ goes. onward (end_in goes)) pieces_of cell kinds pairs text goes profile at state _ flat within starts (is_part goes profile cell at (drop at text));
  }

-- the same by what pieces have
pub units-begin : {A : Type 0} (onward : AtEnd → Onward) (end_in : Bool → AtEnd) (pieces_of : List A → List Decoded) (whole : Profile → (ℕ → Cell) → List Decoded → List Break)
    (part_of : Bool → Profile → (ℕ → Cell) → List Decoded → List Break)
    → AreGivenWhole onward end_in whole part_of
    → (kinds : List ℕ) (pairs : Neighbours) (text : List A) (state : State)
    → ComeAtStart (ComeOf onward end_in pieces_of) (λ profile cell text. whole profile cell (pieces_of text)) (λ goes profile cell part. part_of goes profile cell (pieces_of part)) kinds pairs text state
units-begin onward end_in pieces_of whole part_of given =
    come-at-start onward end_in pieces_of (λ profile cell text. whole profile cell (pieces_of text)) (λ goes profile cell part. part_of goes profile cell (pieces_of part))
    (λ profile cell text. given.starts profile cell (pieces_of text)) (λ goes profile cell at part. given.parts goes profile cell at (pieces_of part))

pub breaks-given : AreGivenWhole onward_to end_in breaks_of_pieces breaks_of_part_of
breaks-given = record { starts = onward-start; parts = pieces-part }

pub positions-given : AreGivenWhole onward_all position_end_in positions_of_pieces positions_of_part_of
positions-given = record { starts = all-start; parts = all-part }

-- what a call gives from a state on
module _ {A : Type 0} (Is : RawBreak → Type 0) (onward : AtEnd → Onward) (end_in : Bool → AtEnd) (pieces_of : List A → List Decoded) (whole : Profile → (ℕ → Cell) → List A → List Break)
    (part_of : Bool → Profile → (ℕ → Cell) → List A → List Break) (kinds : List ℕ) (pairs : Neighbours) (text : List A) (old : State)
    (begins : ComeAtStart (ComeOf onward end_in pieces_of) whole part_of kinds pairs text old) where
  abbrev GivesTo : State → ℕ → List RawBreak → ℕ → Type 0
  GivesTo = Gives (ComeOf onward end_in pieces_of) whole part_of (AreInOrderBy Is) kinds pairs text old

  abbrev from : Onward
  from = onward (end_in (goes_on old.profile))

  -- of a spent state nothing
  pub gives-none : (room : ℕ) (out : List RawBreak) → IsSpent (plain old) (length text) → GivesTo old room out 0
  gives-none room out spent = record {
    goes_over = over-none Is old (length text) room out spent;
    begins = begins;
    gives = λ cell to_come comes.
        let none = ap length (units-none from pieces_of cell kinds pairs text (plain old) to_come spent comes) in
        record { count = omega arith; front = refl; rest = comes };
  }

  -- of another what comes, and what is left comes from the next state on
  gives-some : (profile : Profile) (new : State) (room : ℕ) (out : List RawBreak) (result : ℕ) → IsGoing profile (plain old) (length text)
      → GoesOver (AreInOrderBy Is) old new (length text) room out result
      → ((cell : ℕ → Cell) (to_come : List Break) → IsFlatBy kinds pairs cell → UnitsReachedBy from profile cell (on_from pieces_of text) to_come (from_state (plain old)) []
      → UnitsGo from pieces_of profile cell text to_come (plain new) (given_in out result) result room)
      → GivesTo new room out result
  gives-some profile new room out result going over goes = record {
    goes_over = over;
    begins = begins;
    gives = λ cell to_come comes.
        let kept = over.advances.profile_same in
        let gone = units-go from pieces_of profile cell kinds pairs text (plain old) (plain new) to_come (given_in out result) result room goes going comes in
        record {
          count = gone.counted;
          front = gone.front;
          rest =
              subst (λ n. UnitsComeBy (onward (end_in (goes_on n))) pieces_of cell kinds pairs text (plain new) (drop result to_come)) (sym kept)
              (units-next from pieces_of profile cell kinds pairs text (plain old) (plain new) to_come (given_in out result) result room going (ap plain_number kept) comes gone);
        };
  }

  -- a block was filled from the state on, and the state was moved to where the call got
  pub gives-filled : (profile : Profile) (start here : FillState) (block filled : List RawBreak) (new : State) (out : List RawBreak) (result : ℕ)
      → IsGoing profile (plain old) (length text) → start ≡ start_by old → (IsPlace old.row → start ≡ from_state old) → length filled ≡ length block
      → Fills Is onward pieces_of kinds pairs profile text block start filled here
      → ((profile : Profile) → IsGoing profile (plain old) (length text) → IsInOrderBy Is filled here.count old.at here.at
      → (length filled ≡ 0 → here ≡ start_by old)
      → GoesOver (AreInOrderBy Is) old new (length text) (length filled) out result)
      → ((profile : Profile) (cell : ℕ → Cell) (to_come : List Break) → IsPlace old.row
      → UnitsReachedBy from profile cell (on_from pieces_of text) to_come here (given_in filled here.count)
      → UnitsGo from pieces_of profile cell text to_come (plain new) (given_in out result) result (length filled))
      → GivesTo new (length block) out result
  gives-filled profile start here block filled new out result going starts same room fills over goes =
      subst (λ n. GivesTo new n out result) room
      (gives-some profile new (length filled) out result going
      (over profile going
      (fills.in_order old.at
      (subst (λ (s : FillState). IsInOrderBy Is block s.count old.at s.at) (sym starts) (omega arith, AreInOrder-none block old.at old.at)))
      (λ empty. fills.no_room (omega arith) ∙ starts))
      (λ cell to_come flat were.
      goes profile cell to_come were.knows.0
      (fills.reached cell (record { breaks = to_come; end = end_in (goes_on old.profile) }) flat
      (subst (λ (s : FillState). UnitsReachedBy from profile cell (on_from pieces_of text) to_come s (given_in block s.count)) (sym (same were.knows.0)) were))))

-- Bytes

pub bytes-begin : (kinds : List ℕ) (pairs : Neighbours) (text : List ℕ) (state : State) → BreaksComeAtStart kinds pairs text state
bytes-begin = come-at-start onward_to end_in pieces breaks_of_bytes breaks_of_part (λ profile cell text. onward-start profile cell (pieces text)) part-onward

-- what was reached of bytes, and of units of eight bits
module _ (from : Onward) (profile : Profile) (cell : ℕ → Cell) (text : List ℕ) (all : List Break) (here : FillState) (given : List Break) where
  pub of-bytes : ReachedBy from profile cell text all here given → UnitsReachedBy from profile cell (on_from pieces text) all here given
  of-bytes r = record { taken = r.taken; knows = r.knows; some = r.some; joined = r.joined }

  pub of-units : UnitsReachedBy from profile cell (on_from pieces text) all here given → ReachedBy from profile cell text all here given
  of-units r = record { taken = r.taken; knows = r.knows; some = r.some; joined = r.joined }

-- a block was filled with breaks of bytes, as with those of units of eight bits
pub fills-bytes : (kinds : List ℕ) (pairs : Neighbours) (profile : Profile) (text : List ℕ) (old : List RawBreak) (start : FillState) (new : List RawBreak) (here : FillState)
    → step.Fills profile kinds pairs text old start new here → Fills IsBreak onward_to pieces kinds pairs profile text old start new here
fills-bytes kinds pairs profile text old start new here fills = record {
  within = fills.within;
  stops = fills.stops;
  no_room = fills.no_room;
  in_order = fills.in_order;
  reached = λ cell all flat were.
      of-bytes (onward_to all.end) profile cell text all.breaks here (given_in new here.count)
      (fills.reached cell all flat (of-units (onward_to all.end) profile cell text all.breaks start (given_in old start.count) were));
}
