-- How far a call has come with a piece of a text, and what is to come from a stream on.
use Rattle.std.specs.Prelude.{◌≡◌, ℕ, ◌+◌, min, ◌≤◌, ◌<◌, ◌^◌, Bool, true, false, Some, List, [], ◌∷◌, ◌++◌}
use Rattle.std.specs.Prelude.{length, drop, take}
use Rattle.bstr.specs.Utf8.{Decoded, pieces}
use Rattle.lbk_rules.specs.declared.Break.{Break}
use Rattle.lbk_rules.specs.declared.Cell.{Cell}
use Rattle.lbk_values.specs.declared.profile.Profile.{Profile}
use Rattle.lbk_values.specs.declared.profile.Profile.TheVariants.{Second}
use Rattle.lbk_rules.specs.Classes.{hard}
use Rattle.lbk_rules.specs.Breaks.{is_no}
use Rattle.lbk_rules.specs.Normal.{normal}
use Rattle.lbk_rules.specs.declared.neighbours.Neighbours.{Neighbours}
use Rattle.lbk_rules.specs.FlatTable.{IsFlatBy, KnowsTaken}
use Rattle.lbk_rules.specs.Rows.{IsShown, verdict_shown}
use Rattle.lbk_streams.specs.declared.stream.Cut.{Cut}
use Rattle.lbk_streams.specs.declared.stream.Fed.{Fed}
use Rattle.lbk_streams.specs.declared.stream.Four.{Four}
use Rattle.lbk_streams.specs.declared.stream.Feeding.{Feeding}
use Rattle.lbk_streams.specs.declared.stream.StreamPosition.{StreamPosition}
use Rattle.lbk_streams.specs.declared.stream.Stream.{Stream}
use Rattle.lbk_bytes.specs.Bytes.{end_in}
use Rattle.lbk_bytes.specs.declared.raw_break.RawBreak.{RawBreak}
use Rattle.lbk_bytes.specs.Reached.{IsInOrder, Onward, onward_to}
use Rattle.lbk_bytes.specs.Profiles.{goes_on, plain_number, profile_numbered}
use Rattle.lbk_streams.specs.Streams.{AreUnsettledIn, cut_units, late_break, next_place, place_of}

abbrev pub listed : {A : Type 0} → Four A → List A
listed four = four.first ∷ four.second ∷ four.third ∷ four.fourth ∷ []

abbrev pub front_of : {A : Type 0} → Cut A → List A
front_of cut = take cut.size (listed cut.units)

-- the units of a stream that are not taken as scalars
pub record HoldsCut {A : Type 0} (carried : List ℕ → List A) (widest : ℕ) (stream : Stream) (cut : Cut A) : Type 0 where
  pub within : cut.size ≤ widest
  pub size : cut.size ≡ length (cut_units carried stream)
  pub units : front_of cut ≡ cut_units carried stream

-- a position waits: it stands before a quotation mark and the marks that join it
pub record Waits (profile : Profile) (cell : ℕ → Cell) (taken : List ℕ) (place : StreamPosition) : Type 0 where
  pub second : profile ≡ Second
  pub coded : IsShown place.held_code
  pub breaks : is_no (verdict_shown place.held_code).kind ≡ false
  pub before : place.held_at < place.at
  pub front : List ℕ
  pub last : ℕ
  pub joined : taken ≡ front ++ last ∷ []
  pub soft : hard (normal (cell last)).class ≡ false

-- the breaks of a stream or of a part of one, and whether the text goes on after it
pub record Ahead : Type 0 where
  pub breaks : List Break
  pub goes_on : Bool

-- the breaks from a unit on, by what the stream says of its end
abbrev pub onward_of : Ahead → Onward
onward_of all = onward_to (end_in all.goes_on)

-- of all breaks these were given, and the others come from here on, where these pieces follow
pub record Stands (profile : Profile) (cell : ℕ → Cell) (place : StreamPosition) (ps : List Decoded) (all : Ahead)
    (given : List Break) : Type 0 where
  pub taken : List ℕ
  pub knows : KnowsTaken cell place.row taken
  pub some : 0 < place.row → 0 < length taken
  pub waits : 0 < place.held_code → Waits profile cell taken place
  pub joined : all.breaks ≡ given ++ (late_break cell place ps ++ onward_of all profile cell taken place.at ps)

-- how far a call has come with a piece, behind which these units follow; base: the place of the piece in the stream
pub record Feeds {A : Type 0} (pieces_of : List A → List Decoded) (profile : Profile) (cell : ℕ → Cell) (base : ℕ)
    (piece more : List A) (here : Feeding A) (all : Ahead) (given : List Break) : Type 0 where
  pub stands :
      Stands profile cell here.place (pieces_of (front_of here.cut ++ (drop here.taken piece ++ more))) all given
  pub fits : here.place.at + length (front_of here.cut ++ (drop here.taken piece ++ more)) < 2 ^ 64
  pub seen : here.place.at + here.cut.size ≡ base + here.taken

-- a call gave no more breaks from one place to another than units were taken between them, and a position waited
abbrev pub AreFew : {A : Type 0} → Feeding A → Feeding A → Type 0
AreFew start here =
    here.count + min here.place.held_code 1 + here.cut.size + start.taken
    ≤ start.count + min start.place.held_code 1 + start.cut.size + here.taken

-- Whatever the table: the breaks given are in order, from a place on and up to the one that comes next
pub record IsPlaced (block : List RawBreak) (count from : ℕ) (place : StreamPosition) : Type 0 where
  pub waits : 0 < place.held_code → place.held_at < place.at
  pub order : IsInOrder block count from (next_place place)

-- the same of a call that has come so far with a piece; base: the place of the piece in the stream
pub record IsOrdered {A : Type 0} (block : List RawBreak) (base from : ℕ) (here : Feeding A) : Type 0 where
  pub seen : here.place.at + here.cut.size ≡ base + here.taken
  pub placed : IsPlaced block here.count from here.place

-- these breaks, by what the number of a profile says of the end
abbrev pub ahead : ℕ → List Break → Ahead
ahead number to_come = record { breaks = to_come; goes_on = goes_on number }

-- where these units are still to come, these breaks are
pub record StreamsIn {A : Type 0} (pieces_of : List A → List Decoded) (carried : List ℕ → List A) (cell : ℕ → Cell)
    (kinds : List ℕ) (pairs : Neighbours) (stream : Stream) (more : List A) (to_come : List Break) : Type 0 where
  pub profile : Profile
  pub named : profile_numbered (plain_number stream.profile) ≡ Some profile
  pub flat : IsFlatBy kinds pairs cell
  pub goes_on : stream.ended ≡ 0
      → Stands profile cell (place_of stream) (pieces_of (cut_units carried stream ++ more))
      (ahead stream.profile to_come) []
  pub fits : stream.ended ≡ 0 → stream.at + length (cut_units carried stream ++ more) < 2 ^ 64
  pub none_come : 0 < stream.ended → to_come ≡ []

-- the same of bytes
abbrev pub Streams : (ℕ → Cell) → List ℕ → Neighbours → Stream → List ℕ → List Break → Type 0
Streams = StreamsIn pieces (λ bytes. bytes)

-- what a call does with a piece, behind which these units follow
pub record Gives {A : Type 0} (pieces_of : List A → List Decoded) (carried : List ℕ → List A)
    (could_go_on : List A → Bool) (cell : ℕ → Cell) (kinds : List ℕ) (pairs : Neighbours) (old new : Stream)
    (piece more : List A) (last : Bool) (to_come : List Break) (fed : Fed) (given : List Break)
    (room : ℕ) : Type 0 where
  pub front : given ≡ take fed.count to_come
  pub rest : StreamsIn pieces_of carried cell kinds pairs new (drop fed.taken piece ++ more) (drop fed.count to_come)
  pub settled : last ≡ false → fed.count < room
      → AreUnsettledIn pieces_of carried could_go_on cell new more (drop fed.count to_come)
  pub seen : new.at + length (cut_units carried new) ≡ old.at + length (cut_units carried old) + fed.taken
  pub end : last ≡ true → fed.count < room → fed.count ≡ length to_come
