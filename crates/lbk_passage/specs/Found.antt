-- How far the breaks of a text were found, and which of those found are still to give.
use Rattle.std.specs.Prelude.{◌≡◌, ℕ, ◌+◌, ◌-◌, ◌≤◌, true, false, List, [], ◌++◌, length, drop, min, take}
use Rattle.std.specs.Str.{chars}
use Rattle.lbk_rules.specs.declared.Break.{Break}
use Rattle.lbk_rules.specs.declared.Cell.{Cell}
use Rattle.lbk_values.specs.declared.profile.Profile.{Profile}
use Rattle.lbk_rules.specs.Breaks.{breaks}
use Rattle.lbk_rules.specs.Rows.{IsPlace}
use Rattle.lbk_bytes.specs.declared.raw_break.RawBreak.{RawBreak}
use Rattle.lbk_bytes.specs.Bytes.{closed_end}
use Rattle.lbk_bytes.specs.Order.{AreBreaks}
use Rattle.lbk_bytes.specs.Reached.{Reached}
use Rattle.lbk_bytes.specs.Shown.{given_in}
use Rattle.lbk_passage.specs.declared.found.Progress.{Progress}
use Rattle.lbk_passage.specs.declared.kept.Kept.{Kept}

-- the breaks that come after those found
abbrev pub left_after : Profile → (ℕ → Cell) → List ℕ → Progress → List Break
left_after profile cell text here = drop here.state.count (breaks profile cell (chars text))

-- the first breaks of a text were found, and the others come from here on
pub record IsFound (profile : Profile) (cell : ℕ → Cell) (text : List ℕ) (here : Progress) : Type 0 where
  pub place : IsPlace here.state.row × (here.state.at ≤ length text)
  pub within : here.state.count ≤ length (breaks profile cell (chars text))
  pub goes_on : here.ended ≡ false
      → Reached profile cell text (record { breaks = left_after profile cell text here; end = closed_end })
      (record { count = 0; row = here.state.row; at = here.state.at }) []
  pub none_left : here.ended ≡ true → left_after profile cell text here ≡ []

-- of those left as many were found as there was room for, and stand in the front of a block
pub record FindsNext (profile : Profile) (cell : ℕ → Cell) (text : List ℕ) (from to : Progress) (room : ℕ)
    (out : List RawBreak) : Type 0 where
  pub found : IsFound profile cell text to
  pub count : to.state.count ≡ from.state.count + min room (length (left_after profile cell text from))
  pub breaks : AreBreaks out (to.state.count - from.state.count)
  pub front : given_in out (to.state.count - from.state.count) ≡ take (to.state.count - from.state.count) (left_after profile cell text from)
  pub full : to.ended ≡ false → to.state.count ≡ from.state.count + room

-- the breaks of a block that are still to give
abbrev pub held_in : Kept → List Break
held_in kept = given_in (drop kept.next kept.block) kept.left

-- all that are still to give: those of the block, then those that come after all that were found
abbrev pub to_give : Profile → (ℕ → Cell) → List ℕ → Kept → List Break
to_give profile cell text kept = held_in kept ++ left_after profile cell text kept.progress

-- so many more were given
abbrev pub skipped : ℕ → Kept → Kept
skipped some kept =
    record { progress = kept.progress; block = kept.block; next = kept.next + some; left = kept.left - some }

-- those still to give are the last breaks of the text, all that follow those given; the first of them stand in the
-- block, which has 64 entries, and the others come after the progress
pub record IsKept (profile : Profile) (cell : ℕ → Cell) (text : List ℕ) (kept : Kept) : Type 0 where
  pub found : IsFound profile cell text kept.progress
  pub size : length kept.block ≡ 64
  pub within : kept.next + kept.left ≤ 64
  pub each : AreBreaks (drop kept.next kept.block) kept.left
  pub given : (some : ℕ) × (to_give profile cell text kept ≡ drop some (breaks profile cell (chars text)))

-- of those to give as many were given as there was room for, and stand in the front of a block
pub record FillsNext (profile : Profile) (cell : ℕ → Cell) (text : List ℕ) (from to : Kept) (room count : ℕ)
    (block : List Break) : Type 0 where
  pub kept : IsKept profile cell text to
  pub counted : count ≡ min room (length (to_give profile cell text from))
  pub front : take count block ≡ take count (to_give profile cell text from)
  pub rest : to_give profile cell text to ≡ drop count (to_give profile cell text from)
