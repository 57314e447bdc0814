-- What a call promises that takes the next piece of a stream of units: each set of clauses once.
use Rattle.std.specs.Prelude.{◌≡◌, ℕ, suc, ◌+◌, ◌-◌, ◌^◌, ◌<◌, ◌≤◌, ◌⊎◌, Bool, true, false, List, [], ◌++◌}
use Rattle.std.specs.Prelude.{drop, length, map, take}
use Rattle.bstr.specs.Utf8.{Decoded, pieces}
use Rattle.lbk_rules.specs.declared.Break.{Break}
use Rattle.lbk_rules.specs.declared.Cell.{Cell}
use Rattle.lbk_rules.specs.declared.neighbours.Neighbours.{Neighbours}
use Rattle.lbk_values.specs.declared.profile.Profile.{Profile}
use Rattle.lbk_rules.specs.FlatTable.{IsFlatBy}
use Rattle.lbk_rules.specs.Joins.{moved}
use Rattle.lbk_bytes.specs.declared.raw_break.RawBreak.{RawBreak}
use Rattle.lbk_bytes.specs.Bytes.{breaks_of_bytes, breaks_of_part}
use Rattle.lbk_bytes.specs.Open.{could_go_on}
use Rattle.lbk_bytes.specs.Order.{AreBreaks, AreInOrder}
use Rattle.lbk_bytes.specs.Shown.{given_in}
use Rattle.lbk_units.specs.Units.{breaks_of_part_of, breaks_of_utf16, pieces_of_utf16}
use Rattle.lbk_streams.specs.declared.stream.Fed.{Fed}
use Rattle.lbk_streams.specs.declared.stream.Stream.{Stream}
use Rattle.lbk_streams.specs.Stands.{StreamsIn}
use Rattle.lbk_streams.specs.Streams.{AreUnsettledIn, IsSoundIn, could_go_on_utf16, cut_units, most_left_in, next_place}
use Rattle.lbk_streams.specs.Streams.{part_stream, place_of, stream_start, units_in}

-- whatever the table and the stream, of a piece of so many units: at most one break for each unit, one that waited and
-- the end; from a stream's start on their places rise, in a call and from one call to the next; and where the stream
-- stays
pub record FeedsOver {A : Type 0} (carried : List ℕ → List A) (old new : Stream) (size : ℕ) (last : Bool) (room : ℕ)
    (out : List RawBreak) (fed : Fed) : Type 0 where
  pub within : (fed.count ≤ room) × (fed.taken ≤ size)
  pub all_taken : fed.count < room → fed.taken ≡ size
  pub profile_same : new.profile ≡ old.profile
  pub breaks : AreBreaks out fed.count
  pub few : fed.count + most_left_in carried new + (size - fed.taken) ≤ most_left_in carried old + size
  pub in_order : IsSoundIn carried old size → AreInOrder out fed.count (next_place (place_of old)) (suc new.at)
  pub before_stream : IsSoundIn carried old size → new.ended ≡ 0
      → (next_place (place_of old) ≤ next_place (place_of new))
      × AreInOrder out fed.count (next_place (place_of old)) (next_place (place_of new))
  pub sound : IsSoundIn carried old size → IsSoundIn carried new (size - fed.taken)
  pub place : IsSoundIn carried old size → old.ended ≡ 0 → old.profile ≤ 3
      → new.at + length (cut_units carried new) ≡ old.at + length (cut_units carried old) + fed.taken
  pub only_last : last ≡ false → new.ended ≡ old.ended
  pub closed : last ≡ true → old.ended ≡ 0 → old.profile ≤ 3 → fed.count < room
      → (new.cut_size ≡ 0) × (new.held_code ≡ 0)
  pub ended : last ≡ true → fed.count < room → 0 < new.ended ⊎ (3 < old.profile)
  pub stays : 0 < old.ended ⊎ ((3 < old.profile) ⊎ (room ≡ 0)) → (fed.count ≡ 0) × (new ≡ old)
  pub no_room : room ≡ 0 → fed.taken ≡ 0

-- whatever units follow the piece (none, where it is the last), if these breaks are to come of all of them: what is
-- given comes first of these, and the others come next
pub record FeedsNext {A : Type 0} (pieces_of : List A → List Decoded) (carried : List ℕ → List A)
    (could_go_on : List A → Bool) (cell : ℕ → Cell) (kinds : List ℕ) (pairs : Neighbours) (old new : Stream)
    (piece more : List A) (last : Bool) (room : ℕ) (out : List RawBreak) (fed : Fed)
    (to_come : List Break) : Type 0 where
  pub front : (last ≡ true → more ≡ []) → given_in out fed.count ≡ take fed.count to_come
  pub rest : (last ≡ true → more ≡ []) → StreamsIn pieces_of carried cell kinds pairs new (drop fed.taken piece ++ more)
      (drop fed.count to_come)
  pub settled : last ≡ false → old.ended ≡ 0 → fed.count < room
      → AreUnsettledIn pieces_of carried could_go_on cell new more (drop fed.count to_come)
  pub seen : (last ≡ true → more ≡ []) → old.ended ≡ 0
      → new.at + length (cut_units carried new) ≡ old.at + length (cut_units carried old) + fed.taken

-- all that such a call promises. `whole` has the breaks of a text, and `part_of` those of a part of a text, after which
-- the text goes on (true) or ends. A stream holds at most `widest` units of a scalar that was cut
pub record TakesPiece {A : Type 0} (pieces_of : List A → List Decoded) (carried : List ℕ → List A)
    (could_go_on : List A → Bool) (widest : ℕ) (whole : Profile → (ℕ → Cell) → List A → List Break)
    (part_of : Bool → Profile → (ℕ → Cell) → List A → List Break) (kinds : List ℕ) (pairs : Neighbours)
    (old new : Stream) (piece : List A) (last : Bool) (room : ℕ) (out : List RawBreak) (fed : Fed) : Type 0 where
  pub over : FeedsOver carried old new (length piece) last room out fed
  pub start : (cell : ℕ → Cell) (profile : Profile) (text : List A) → IsFlatBy kinds pairs cell → length text < 2 ^ 64
      → old ≡ stream_start profile
      → StreamsIn pieces_of carried cell kinds pairs old text (whole profile cell text)
  -- offsets count from the start of the text
  pub part : (cell : ℕ → Cell) (profile : Profile) (goes_on : Bool) (at : ℕ) (text : List A) → IsFlatBy kinds pairs cell
      → at + length text < 2 ^ 64
      → old ≡ part_stream goes_on profile at
      → StreamsIn pieces_of carried cell kinds pairs old text (map (moved at) (part_of goes_on profile cell text))
  pub next : (cell : ℕ → Cell) (more : List A) (to_come : List Break)
      → StreamsIn pieces_of carried cell kinds pairs old (piece ++ more) to_come
      → FeedsNext pieces_of carried could_go_on cell kinds pairs old new piece more last room out fed to_come
  pub cut : old.cut_size ≤ widest → new.cut_size ≤ widest
  pub end : (cell : ℕ → Cell) (to_come : List Break) → StreamsIn pieces_of carried cell kinds pairs old piece to_come
      → last ≡ true → fed.count < room → fed.count ≡ length to_come

-- of bytes, of which a stream holds at most four, and of units of 16 bits, of which it holds at most two
abbrev pub TakesBytes : List ℕ → Neighbours → Stream → Stream → List ℕ → Bool → ℕ → List RawBreak → Fed → Type 0
TakesBytes = TakesPiece pieces (λ bytes. bytes) could_go_on 4 breaks_of_bytes breaks_of_part

abbrev pub TakesUtf16 : List ℕ → Neighbours → Stream → Stream → List ℕ → Bool → ℕ → List RawBreak → Fed → Type 0
TakesUtf16 =
    TakesPiece pieces_of_utf16 units_in could_go_on_utf16 2 breaks_of_utf16
    (λ goes_on profile cell text. breaks_of_part_of goes_on profile cell (pieces_of_utf16 text))
