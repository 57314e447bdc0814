-- What blocks of words and of cuts keep, whatever the text.
use Rattle.std.specs.Prelude.{ℕ, ◌-◌, ◌==◌, List, [], ◌∷◌, slice_index_or, if◌then◌else◌}
use Rattle.std.specs.Coded.{le_prop}
use mathlib.Core.HLevel.{×₃_prop}
use Rattle.lbk_words.specs.declared.word.Word.{Word}
use Rattle.lbk_words.specs.Words.{AreRising}
use Rattle.lbk_chunks.specs.declared.cut.Cut.{Cut}

-- words rise in one way only
pub AreRising-prop : (from to : ℕ) (words : List Word) → IsProp (AreRising from to words)
AreRising-prop from to [] = le_prop
AreRising-prop from to (word ∷ words) = ×₃_prop le_prop le_prop (AreRising-prop word.end to words)

-- a cut where there is none
abbrev pub no_cut : Cut
no_cut = record { at = 0; words = 0; kind = 0; rule = 0 }

-- the offset of the last of the first cuts, if there is one
abbrev pub last_or : List Cut → ℕ → ℕ → ℕ
last_or cuts count at = if count == 0 then at else (slice_index_or cuts (count - 1) no_cut).at
