-- Where paragraphs end, told by two classes: no machine is asked.
use Rattle.std.specs.Prelude.{◌≡◌, ℕ, ◌+◌, Bool, true, false, ◌&&◌, not, ◌≤◌, List, [], ◌∷◌, ◌++◌, length, drop}
use Rattle.std.specs.Prelude.{Option, Some, None}
use Rattle.std.specs.Str.{chars, is_utf8}
use Rattle.lbk_feed.specs.Text.{longest_text}
use Rattle.lbk_rules.specs.declared.Class.{Class}
use Rattle.lbk_rules.specs.declared.Cell.{Cell}
use Rattle.lbk_rules.specs.declared.Verdict.{Verdict}
use Rattle.lbk_rules.specs.Ends.{ends_between, end_after, end_of_text}
use Rattle.lbk_feed.specs.View.{View}
use Rattle.lbk_passage.specs.State.{bytes_in}
use Rattle.lbk_passage.specs.declared.paragraph.Paragraph.{Paragraph}

-- a line must end between a cell of class `last`, if one stands there, and one of class `next`
abbrev pub ends_at : Option Class → Class → Bool
ends_at None next = false
ends_at (Some last) next = ends_between last next

-- a line must end nowhere before, or between, these scalars
abbrev pub stays : (ℕ → Cell) → Option Class → List ℕ → Bool
stays cell last [] = true
stays cell last (c ∷ cs) = not (ends_at last (cell c).class) && stays cell (Some (cell c).class) cs

-- the class of the last of them
abbrev pub last_class : (ℕ → Cell) → Option Class → List ℕ → Option Class
last_class cell last [] = last
last_class cell last (c ∷ cs) = last_class cell (Some (cell c).class) cs

-- the verdict at the end of a paragraph whose last scalar is of class `last`, if it has one; `follows`: text follows
abbrev pub end_before : Option Class → Bool → Option Verdict
end_before None follows = None
end_before (Some last) false = Some end_of_text
end_before (Some last) true = Some (end_after last)

abbrev pub is_nil : List ℕ → Bool
is_nil [] = true
is_nil (_ ∷ _) = false

-- a line must end before these scalars, which are ready, or nothing more comes
abbrev pub finds_end : (ℕ → Cell) → Option Class → View → List ℕ → Bool
finds_end cell last feed [] = is_nil feed.held && feed.is_ended
finds_end cell last feed (c ∷ _) = ends_at last (cell c).class

-- a paragraph of this text is whole: a line must end nowhere in it, its end was found, and is what it says; what is
-- ready behind it is a text, and the first of what the feed holds
pub record IsWholeText (cell : ℕ → Cell) (text : List ℕ) (feed : View) (end : Option Verdict) : Type 0 where
  pub utf8 : is_utf8 feed.ready ≡ true
  pub first : feed.ready ++ drop (length feed.ready) feed.held ≡ feed.held
  pub few : feed.given + length feed.ready ≤ longest_text
  pub none_ends : stays cell None (chars text) ≡ true
  pub found : finds_end cell (last_class cell None (chars text)) feed (chars feed.ready) ≡ true
  pub end_is : end ≡ end_before (last_class cell None (chars text)) (not (is_nil (chars feed.ready)))

abbrev pub IsWhole : (ℕ → Cell) → Paragraph → Type 0
IsWhole cell p = IsWholeText cell (bytes_in p) p.feed p.end
