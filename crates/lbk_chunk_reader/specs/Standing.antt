-- What a chunker keeps between calls.
use Rattle.std.specs.Prelude.{◌≡◌, ◌≤◌, Bool, true, false}
use Rattle.lbk_passage.specs.Next.{IsDone}
use Rattle.lbk_passage.specs.State.{State}
use Rattle.lbk_chunk_reader.specs.declared.window.Window.{Window}
use Rattle.lbk_chunk_reader.specs.Between.{AreCutsBetween}
use Rattle.lbk_chunk_reader.specs.Reader.{View}
use Rattle.lbk_chunk_reader.specs.Window.{cuts_in}

-- what a window and a segmenter show
abbrev pub view_with : Window → State → View
view_with w s = record { limits = w.limits; cuts = cuts_in w; here = w.here; passages = s; words = w.words }

-- between calls that did not fail: the cuts held are between the next start and the end of the passages returned, and
-- no word is empty
pub record Stands (w : Window) (s : State) (is_whole : Bool) : Type 0 where
  pub unspent : s.is_spent ≡ false
  pub whole : is_whole ≡ true → IsDone s
  pub between : AreCutsBetween w.here.start (cuts_in w) s.start
  pub told : w.here.start ≤ w.here.told
  pub words : w.words ≤ s.start
