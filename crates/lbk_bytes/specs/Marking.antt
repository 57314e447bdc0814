-- How far a call has come that sets a bit for each break.
use Rattle.std.specs.Prelude.{◌≡◌, ℕ, ◌+◌, ◌*◌, ◌<◌, ◌≤◌, Bool, false, List, [], ◌∷◌, ◌++◌, get_or, length}
use Rattle.lbk_rules.specs.declared.Break.{Break}
use Rattle.lbk_rules.specs.declared.Cell.{Cell}
use Rattle.lbk_values.specs.declared.profile.Profile.{Profile}
use Rattle.lbk_rules.specs.declared.neighbours.Neighbours.{Neighbours}
use Rattle.lbk_rules.specs.declared.steps.Step.{Step}
use Rattle.lbk_rules.specs.FlatTable.{IsFlatBy}
use Rattle.lbk_rules.specs.Rows.{AreSteps, IsPlace, steps_in}
use Rattle.lbk_bytes.specs.declared.fill_state.FillState.{FillState}
use Rattle.lbk_bytes.specs.Marks.{boundary_from, breaks_at, is_marked, stands_among}
use Rattle.lbk_bytes.specs.Reached.{Ahead, Reached}

-- all breaks stand before a byte
abbrev pub AreBelow : ℕ → List Break → Type 0
AreBelow stop [] = Unit {0}
AreBelow stop (b ∷ bs) = (b.at < stop) × AreBelow stop bs

-- none stands before a byte
abbrev pub AreFrom : ℕ → List Break → Type 0
AreFrom place [] = Unit {0}
AreFrom place (b ∷ bs) = (place ≤ b.at) × AreFrom place bs

-- counted from byte `from` on, no bit is set from byte `at` on
abbrev pub AreClear : ℕ → ℕ → List ℕ → Type 0
AreClear from at words = (i : ℕ) → at ≤ from + i → is_marked words i ≡ false

-- a state, whatever it counts
abbrev pub uncounted : FillState → FillState
uncounted here = record { count = 0; row = here.row; at = here.at }

-- some breaks were given, all before byte `stop`: of so many bytes from byte `from` on, this is told of those with one
-- before them, and of no others; the call stands between two scalars, of which the one before began before that byte
pub record Told (profile : Profile) (cell : ℕ → Cell) (text : List ℕ) (all : Ahead) (from stop : ℕ)
    (here : FillState) (size : ℕ) (tells : ℕ → Bool) : Type 0 where
  pub given : List Break
  pub reached : Reached profile cell text all (uncounted here) given
  pub below : AreBelow stop given
  pub marked : (i : ℕ) → i < size → tells i ≡ stands_among (from + i) given
  pub boundary : boundary_from text here.at stop ≡ boundary_from text from stop

-- the bits of some words tell it
abbrev pub Marked : Profile → (ℕ → Cell) → List ℕ → Ahead → ℕ → ℕ → FillState → List ℕ → Type 0
Marked profile cell text all from stop here words =
    Told profile cell text all from stop here (64 * length words) (is_marked words)

-- The bits of one word tell it, and kinds of verdicts. From where the call stands on there are none of these.
pub record Gathered (profile : Profile) (cell : ℕ → Cell) (text : List ℕ) (all : Ahead) (from stop word : ℕ)
    (here : FillState) (kinds : List ℕ) : Type 0 where
  pub none : (i : ℕ) → here.at ≤ from + i → get_or kinds i 0 ≡ 0
  pub told : Told profile cell text all from stop here 64 (breaks_at word kinds)

-- after so many bits, counted from byte `from` on, no line breaks from byte `at` on
abbrev pub AreGathered : ℕ → ℕ → ℕ → List ℕ → Type 0
AreGathered from at word kinds = (i : ℕ) → at ≤ from + i → breaks_at word kinds i ≡ false

-- blocks of bytes may be taken from here on by steps of some profile, and there is a bit for each byte of the text from
-- byte `from` on
abbrev pub MayMark : List (List Step) → List ℕ → ℕ → List ℕ → FillState → Type 0
MayMark steps text from words here =
    IsPlace here.row × (from ≤ here.at) × (here.at ≤ length text) × (length text ≤ from + 64 * length words)
    × AreSteps steps

-- Bytes of a text are taken, whatever follows the text. If no bit was set from the byte on that came next, so it is
-- now; and so it is if a bit was set for each break of what was taken.
pub record MarksOn (kinds : List ℕ) (pairs : Neighbours) (steps : List (List Step)) (text : List ℕ) (from : ℕ)
    (old : List ℕ) (start : FillState) (new : List ℕ) (result : FillState) : Type 0 where
  pub within : IsPlace result.row × (start.at ≤ result.at) × (result.at ≤ length text)
  pub none : AreClear from start.at old → AreClear from result.at new
  pub marked : (profile : Profile) (cell : ℕ → Cell) (more : List ℕ) (all : Ahead)
      → steps ≡ steps_in profile → IsFlatBy kinds pairs cell
      → Marked profile cell (text ++ more) all from (length text) start old
      → Marked profile cell (text ++ more) all from (length text) result new

-- scalars are taken, at least one, that begin before byte `stop`: the same of the words that there were and that there
-- are now
pub record MarksFurther (kinds : List ℕ) (pairs : Neighbours) (profile : Profile) (text : List ℕ) (from stop : ℕ)
    (old : List ℕ) (start : FillState) (new : List ℕ) (result : FillState) : Type 0 where
  pub within : IsPlace result.row × (start.at < result.at) × (result.at ≤ length text) × (result.at ≤ stop + 3)
  pub none : AreClear from start.at old → AreClear from result.at new
  pub marked : (cell : ℕ → Cell) (all : Ahead) → IsFlatBy kinds pairs cell
      → Marked profile cell text all from stop start old
      → Marked profile cell text all from stop result new

-- the same of one word and kinds of verdicts
pub record GathersFurther (kinds : List ℕ) (pairs : Neighbours) (profile : Profile) (text : List ℕ) (from stop word : ℕ)
    (old : List ℕ) (start : FillState) (new : List ℕ) (result : FillState) : Type 0 where
  pub within : IsPlace result.row × (start.at < result.at) × (result.at ≤ length text) × (result.at ≤ stop + 3)
  pub none : AreGathered from start.at word old → AreGathered from result.at word new
  pub gathered : (cell : ℕ → Cell) (all : Ahead) → IsFlatBy kinds pairs cell
      → Gathered profile cell text all from stop word start old
      → Gathered profile cell text all from stop word result new
