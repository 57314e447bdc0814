-- How far a block is filled with the words of a text.
use Rattle.std.specs.Prelude.{◌≡◌, ℕ, ◌+◌, ◌<◌, ◌≤◌, Bool, List, ◌∷◌, ◌++◌, drop, length, reverse, take, []}
use Rattle.std.specs.Prelude.{if◌then◌else◌}
use Rattle.bstr.specs.Utf8.{Decoded, pieces}
use Rattle.unicode_segmentation.specs.Segments.{cut, prepend}
use Rattle.unicode_segmentation.specs.Word.{is_word_break, significant, value_at}
use Rattle.lbk_words.specs.declared.parts.Filling.{Filling}
use Rattle.lbk_words.specs.declared.steps.NextStep.{NextStep}
use Rattle.lbk_words.specs.declared.word.Filled.{Filled}
use Rattle.lbk_words.specs.declared.word.Word.{Word}
use Rattle.lbk_words.specs.Contexts.{Context, context_of}
use Rattle.lbk_words.specs.Letters.{has_letter}
use Rattle.lbk_words.specs.Places.{IsReadAt}
use Rattle.lbk_words.specs.Rows.{IsStep, canonical, row_context, row_word}
use Rattle.lbk_words.specs.Words.{AreRising, IsBoundary, bytes_of, parts_of, scalars_of, scalars_on, words_on}

-- of a text that is taken alone from the byte `start` on, the first `count` words are in the front of a block, and
-- the others are those from the boundary `at` on
pub record IsFilled (text : List ℕ) (start at count : ℕ) (out : List Word) : Type 0 where
  pub room : count ≤ length out
  pub onward : start ≤ at
  pub boundary : IsBoundary text start at
  pub rising : AreRising start at (take count out)
  pub joined : words_on text start ≡ take count out ++ words_on text at

-- a block is filled from one boundary on to another: what was filled before is filled up to that one
pub record FillsOn (text : List ℕ) (from : Filled) (old : List Word) (to : Filled) (new : List Word) : Type 0 where
  pub onward : (from.at ≤ to.at) × (from.count ≤ to.count)
  pub within : (to.at ≤ length text) × (to.count ≤ length old)
  pub filled : (start : ℕ) → IsFilled text start from.at from.count old → IsFilled text start to.at to.count new

-- the scalars of a part, nearest first
abbrev pub back : List Decoded → List ℕ
back part = reverse (scalars_of part)

-- no boundary is between the scalars from `begin` up to `at`: they are a part, or the front of one
pub record IsWalk (text : List ℕ) (begin at : ℕ) (context : Context) (is_word : Bool) : Type 0 where
  pub part : List Decoded
  pub grows : begin < at
  pub within : at ≤ length text
  pub reads : pieces (drop begin text) ≡ part ++ pieces (drop at text)
  pub place : at ≡ begin + bytes_of part
  pub knows : context ≡ context_of (back part)
  pub some : (last : ℕ) × (before : List ℕ) × (back part ≡ last ∷ before)
  pub first : parts_of (scalars_on text begin)
      ≡ (let rest = cut is_word_break (back part) (scalars_on text at) [] in
      if is_word_break (back part) (scalars_on text at) then scalars_of part ∷ rest else prepend (scalars_of part) rest)
  pub word : is_word ≡ has_letter (scalars_of part)

-- the part so far, and its row
pub record IsInRow (text : List ℕ) (begin at row : ℕ) : Type 0 where
  pub few : row < 43
  pub context : Context
  pub like : canonical context ≡ row_context row
  pub walk : IsWalk text begin at context (row_word row)

-- what the scalar at a byte makes of a part of this row
pub record IsNextStep (text : List ℕ) (row at : ℕ) (next : NextStep) : Type 0 where
  pub read : IsReadAt text at next.code next.end
  pub step : IsStep row next.code (value_at (significant (scalars_on text next.end)) 0) next.step

-- a block is filled up to a part, of which these scalars have been read
pub record IsFilling (text : List ℕ) (start : ℕ) (part : Filling) (out : List Word) : Type 0 where
  pub filled : IsFilled text start part.filled.at part.filled.count out
  pub reads : IsInRow text part.filled.at part.at part.row

-- from a boundary on, a block is filled up to such a part
pub record FillsUpTo (text : List ℕ) (from : Filled) (old : List Word) (part : Filling) (new : List Word) : Type 0 where
  pub onward : (from.at ≤ part.filled.at) × (from.count ≤ part.filled.count)
  pub within : (part.at ≤ length text) × (part.filled.count ≤ length new)
  pub some : part.filled.at < part.at
  pub few : part.row < 43
  pub filling : (start : ℕ) → IsFilled text start from.at from.count old → IsFilling text start part new
