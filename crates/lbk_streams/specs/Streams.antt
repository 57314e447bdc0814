-- A text that comes in pieces: what a stream holds of its units, and which breaks these do not settle.
use Rattle.std.specs.Prelude.{◌≡◌, ℕ, ◌+◌, ◌-◌, ◌*◌, ◌^◌, ◌<◌, ◌≤◌, min, length, ◌==◌, ◌||◌, ◌&&◌, Bool, true, false}
use Rattle.std.specs.Prelude.{◌⊎◌, List, [], ◌∷◌, ◌++◌, map, slice_index, take, if◌then◌else◌}
use Rattle.std.specs.Char.Utf16.{is_high_surrogate}
use Rattle.std.specs.List.{AllByRecursion}
use Rattle.bstr.specs.Utf8.{Decoded, pieces}
use Rattle.lbk_rules.specs.declared.Break.{Break}
use Rattle.lbk_rules.specs.declared.Cell.{Cell}
use Rattle.lbk_values.specs.declared.profile.Profile.{Profile}
use Rattle.lbk_rules.specs.Breaks.{is_no}
use Rattle.lbk_rules.specs.Normal.{normal}
use Rattle.lbk_rules.specs.Sides.{leaves_closed}
use Rattle.lbk_rules.specs.Units.{units_after}
use Rattle.lbk_rules.specs.Rows.{verdict_shown}
use Rattle.lbk_streams.specs.declared.stream.StreamPosition.{StreamPosition}
use Rattle.lbk_streams.specs.declared.stream.Stream.{Stream}
use Rattle.lbk_bytes.specs.Bytes.{with_break}
use Rattle.lbk_bytes.specs.Open.{could_go_on}
use Rattle.lbk_bytes.specs.Profiles.{profile_number}
use Rattle.lbk_bytes.specs.Reached.{scalars_of}

-- the units of a stream that came and are not taken as scalars, by the units that its four bytes hold
abbrev pub cut_units : {A : Type 0} → (List ℕ → List A) → Stream → List A
cut_units carried stream = take stream.cut_size (carried stream.cut)

abbrev pub cut_bytes : Stream → List ℕ
cut_bytes = cut_units (λ bytes. bytes)

-- the two units of 16 bits that four bytes hold, the low byte of each first
abbrev pub units_in : List ℕ → List ℕ
units_in bytes =
    (slice_index bytes 0 + 256 * slice_index bytes 1) ∷ (slice_index bytes 2 + 256 * slice_index bytes 3) ∷ []

-- how many breaks may come yet of what a stream holds by itself: one for each unit that was cut, one for the position
-- that waits, and the end
abbrev pub most_left_in : {A : Type 0} → (List ℕ → List A) → Stream → ℕ
most_left_in carried stream = length (cut_units carried stream) + min stream.held_code 1 + (1 - stream.ended)

abbrev pub most_left : Stream → ℕ
most_left = most_left_in (λ bytes. bytes)

-- the stream at the start of a text, or of a part of one that begins at a unit, and after which the text goes on or
-- ends
abbrev pub part_stream : Bool → Profile → ℕ → Stream
part_stream goes_on profile at = record {
  at = at;
  held_at = 0;
  row = 0;
  held_code = 0;
  cut = 0 ∷ 0 ∷ 0 ∷ 0 ∷ [];
  cut_size = 0;
  profile = if goes_on then 2 + profile_number profile else profile_number profile;
  ended = 0;
}

-- the stream at the start of a text
abbrev pub stream_start : Profile → Stream
stream_start profile = part_stream false profile 0

-- where it stands between two scalars
abbrev pub place_of : Stream → StreamPosition
place_of stream = record { at = stream.at; held_at = stream.held_at; row = stream.row; held_code = stream.held_code }

-- the first place at which a break may come yet: the one that waits, or else the one where the stream stands
abbrev pub next_place : StreamPosition → ℕ
next_place place = if place.held_code == 0 then place.at else place.held_at

-- A stream whose places can be counted on, where so many units follow: the place that waits is an earlier one, and
-- the stream has fewer than 2^64 units. So it is of each stream at its start
pub record IsSoundIn {A : Type 0} (carried : List ℕ → List A) (stream : Stream) (more : ℕ) : Type 0 where
  pub waits : 0 < stream.held_code → stream.held_at < stream.at
  pub fits : stream.at + length (cut_units carried stream) + more < 2 ^ 64

-- the same of bytes
abbrev pub IsSound : Stream → ℕ → Type 0
IsSound = IsSoundIn (λ bytes. bytes)

-- the cells of some pieces, without what no rule asks of them
abbrev pub cells_of : (ℕ → Cell) → List Decoded → List Cell
cells_of cell ps = map normal (map cell (scalars_of ps))

-- the break at the position that waits, if one does, where these pieces follow: none, if they close the quotation
-- (rule 15b)
abbrev pub late_break : (ℕ → Cell) → StreamPosition → List Decoded → List Break
late_break cell place ps =
    if place.held_code == 0 || leaves_closed (units_after false (cells_of cell ps))
    then []
    else with_break place.held_at (verdict_shown place.held_code) []

-- These breaks are to come, and the units so far settle none of them: all stand where the last units could be part of a
-- scalar yet, or behind all units, but for one at most that waits for the next unit of the rules. By what an encoding
-- reads of some units, the units that bytes hold, and whether more units could make a scalar of some
pub record AreUnsettledIn {A : Type 0} (pieces_of : List A → List Decoded) (carried : List ℕ → List A)
    (could_go_on : List A → Bool) (cell : ℕ → Cell) (stream : Stream) (more : List A) (to_come : List Break)
    : Type 0 where
  pub cut : (cut_units carried stream ≡ []) ⊎ (could_go_on (cut_units carried stream) ≡ true)
  pub later : List Break
  pub onward : AllByRecursion (λ found. stream.at ≤ found.at) later
  pub joined : to_come ≡ late_break cell (place_of stream) (pieces_of (cut_units carried stream ++ more)) ++ later
  pub waits : 0 < stream.held_code
      → (stream.held_at < stream.at) × (is_no (verdict_shown stream.held_code).kind ≡ false)

-- the same of bytes
abbrev pub AreUnsettled : (ℕ → Cell) → Stream → List ℕ → List Break → Type 0
AreUnsettled = AreUnsettledIn pieces (λ bytes. bytes) could_go_on

-- more units could make a pair of these, which do not end it: a high surrogate alone (Unicode Standard, section 3.9,
-- D91)
abbrev pub could_go_on_utf16 : List ℕ → Bool
could_go_on_utf16 units = (length units == 1) && is_high_surrogate (slice_index units 0)
