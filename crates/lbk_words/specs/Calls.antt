-- What the call promises that puts the next words of a text into a block: each clause once.
use Rattle.std.specs.Prelude.{◌≡◌, ℕ, ◌<◌, ◌≤◌, List, drop, length, min, take}
use Rattle.lbk_words.specs.declared.calls.WordState.{WordState}
use Rattle.lbk_words.specs.declared.word.Word.{Word}
use Rattle.lbk_words.specs.Words.{AreRising, IsBoundary, words_on}

-- of the words from a state on as many come as there is room for, and the others come from the new state on
pub record GivesWords (text : List ℕ) (old new : WordState) (room : ℕ) (out : List Word) (result : ℕ) : Type 0 where
  pub count : result ≡ min room (length (words_on text old.at))
  pub front : take result out ≡ take result (words_on text old.at)
  pub rest : words_on text new.at ≡ drop result (words_on text old.at)
  pub onward : old.at ≤ new.at
  pub boundary : IsBoundary text old.at new.at
  pub rising : AreRising old.at new.at (take result out)
  pub within : old.at ≤ length text → new.at ≤ length text
  pub all : result < room → old.at ≤ length text → new.at ≡ length text
  pub ended : length text ≤ old.at → (result ≡ 0) × (new ≡ old)
  pub no_room : room ≡ 0 → (result ≡ 0) × (new ≡ old)
