use Rattle.std.proofs.Common.{◌≡◌, ◌-◌, length}
use Rattle.unicode_segmentation.specs.Word.{significant}
use Rattle.lbk_words.specs.Words.{scalars_on}
use Rattle.lbk_words.proofs.scalars.answer_ahead.Given as goal

abbrev pub invariant-loop-at : goal.invariant-loop-at
invariant-loop-at l = significant (scalars_on l.text l.start) ≡ significant (scalars_on l.text l.at)

abbrev pub decreases-loop-at : goal.decreases-loop-at
decreases-loop-at l = length l.text - l.at
