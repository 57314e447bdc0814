-- A segmenter as its callers see it.
use Rattle.std.specs.Prelude.{ℕ, ◌-◌, ◌≤◌, ◌==◌, Bool, false, ◌||◌, List, [], ◌++◌, length, string_bytes, if◌then◌else◌}
use Rattle.lbk_feed.specs.Text.{greatest_limit}
use Rattle.lbk_feed.specs.View.{last_used}
use Rattle.lbk_rules.specs.declared.Cell.{Cell}
use Rattle.lbk_values.specs.declared.profile.Profile.{Profile}
use Rattle.lbk_passage.specs.declared.paragraph.Paragraph.{Paragraph}

-- a limit counts bytes, and is 1 to the greatest
abbrev pub IsLimit : ℕ → Type 0
IsLimit limit = (1 ≤ limit) × (limit ≤ greatest_limit)

-- the cells and the profile that it decides by, and its limit; how many bytes of text the passages given have, the
-- bytes that were read and not given, whether a read gave no byte, whether what the next call answers was seen
-- already, and whether a fault was answered
pub record State : Type 0 where
  pub cell : ℕ → Cell
  pub profile : Profile
  pub limit : ℕ
  pub start : ℕ
  pub held : List ℕ
  pub is_ended : Bool
  pub is_settled : Bool
  pub is_spent : Bool

-- before any call
abbrev pub new_state : (ℕ → Cell) → Profile → ℕ → State
new_state cell profile limit = record {
  cell = cell;
  profile = profile;
  limit = limit;
  start = 0;
  held = [];
  is_ended = false;
  is_settled = false;
  is_spent = false;
}

-- the bytes of a paragraph: those that were gathered, or, where it is lent of its feed, the last that were consumed
abbrev pub bytes_in : Paragraph → List ℕ
bytes_in p = if p.lent == 0 then string_bytes p.text else last_used p.feed p.lent

-- the text of the paragraph in progress: none, once it was given
abbrev pub text_held : Paragraph → List ℕ
text_held p = if p.is_held || p.is_spent then bytes_in p else []

-- what a paragraph shows
abbrev pub state_with : (ℕ → Cell) → Profile → Paragraph → State
state_with cell profile p = record {
  cell = cell;
  profile = profile;
  limit = p.limit;
  start = p.feed.given - length (text_held p);
  held = text_held p ++ p.feed.held;
  is_ended = p.feed.is_ended;
  is_settled = p.is_held || p.is_spent;
  is_spent = p.is_spent;
}
