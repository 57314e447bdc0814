-- The cuts that a window holds.
use Rattle.std.specs.Prelude.{◌≡◌, ℕ, ◌+◌, ◌*◌, ◌≤◌, Bool, List, [], ◌++◌, Option, IfSome, drop, is_some, length, map, vec_len}
use Rattle.lbk_chunks.specs.declared.chunk.Limits.{Limits}
use Rattle.lbk_chunks.specs.declared.cut.Cut.{Cut}
use Rattle.lbk_passage.specs.declared.passage.Passage.{Passage}
use Rattle.lbk_chunk_reader.specs.PassageWords.{words_in_pieces}
use Rattle.lbk_chunk_reader.specs.declared.window.Window.{Window}
use Rattle.lbk_chunk_reader.specs.declared.held.Held.{Held}
use Rattle.lbk_chunk_reader.specs.Cuts.{cuts_between}
use Rattle.lbk_chunk_reader.specs.Held.{IsHeld}
use Rattle.lbk_chunks.specs.declared.chunk.Here.{Here}
use Rattle.lbk_chunk_reader.specs.Numbered.{numbered}

abbrev pub cuts_in : Window → List Cut
cuts_in w = map numbered (drop w.passed w.cuts.items)

-- the limits, where the next chunk starts, and how many words are in the passages that were taken
abbrev pub limits_in : Window → Limits
limits_in w = w.limits

abbrev pub here_in : Window → Here
here_in w = w.here

abbrev pub words_in : Window → ℕ
words_in w = w.words

-- the text that is kept, if any is
abbrev pub held_in : Window → Option Held
held_in w = w.held

abbrev pub keeps_text : Window → Bool
keeps_text w = is_some (held_in w)

-- the part of a text that is kept, if the bytes from `start` on are needed, and from the next start on
abbrev pub HoldsFrom : ℕ → List ℕ → Window → Type 0
HoldsFrom start text w = IfSome (held_in w) (IsHeld start text)

abbrev pub Holds : List ℕ → Window → Type 0
Holds text w = HoldsFrom (here_in w).start text w

-- at most half of the cuts that it holds were passed
abbrev pub HoldsFew : Window → Type 0
HoldsFew w = 2 * w.passed ≤ vec_len w.cuts

-- none, at the start of a text
pub record IsNewWindow (l : Limits) (w : Window) : Type 0 where
  pub limits : w.limits ≡ l
  pub cuts : cuts_in w ≡ []
  pub here : w.here ≡ record { start = 0; words = 0; told = 0 }
  pub words : w.words ≡ 0
  pub held : HoldsFrom 0 [] w

-- the same cuts, at the same offset
pub record IsSameWindow (old new : Window) : Type 0 where
  pub limits : new.limits ≡ old.limits
  pub cuts : cuts_in new ≡ cuts_in old
  pub here : new.here ≡ old.here
  pub words : new.words ≡ old.words
  pub held : new.held ≡ old.held

-- the cuts of a passage were appended, and so was its text
pub record IsTaken (p : Passage) (old new : Window) : Type 0 where
  pub limits : new.limits ≡ old.limits
  pub cuts : cuts_in new ≡ cuts_in old ++ cuts_between p.start old.words p.segments.now p.pieces.now
  pub here : new.here ≡ old.here
  pub words : new.words ≡ old.words + length (words_in_pieces p.start p.pieces.now)
  pub keeps : keeps_text new ≡ keeps_text old
  pub holds : (text : List ℕ) → Holds text old → Holds (text ++ p.text.now) new
