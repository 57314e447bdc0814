use Rattle.std.proofs.Common.{◌≡◌, ℕ, ◌<◌, ◌&&◌, ◌||◌, not, get_or, bit_or, ap, ap₂, ◌∙◌, arith, w64}
use Rattle.std.specs.Int.{bit_not}
use Rattle.lbk_masks.proofs.BitLemmas.{set-and, set-not, set-or}
use Rattle.lbk_masks.specs.Sets.{is_set}
use Rattle.lbk_words.specs.Blocks.{class_at}
use Rattle.lbk_words.proofs.EdgeLemmas.{mid-at}
use Rattle.lbk_words.proofs.PlaceLemmas.{IsPlaced, is-placed}
use Rattle.lbk_words.proofs.blocks.marks_of.Goals as goal

pub returns : goal.returns
returns g c =
    let bytes = c.args.bytes.now in
    let fit : (i : ℕ) → get_or bytes i 0 < 256 = λ i. (c.type_inv.bytes i).fits in
    let placed : (i : ℕ) → IsPlaced bytes i = λ i. is-placed bytes i fit in
    let letters = bit_or c.members.result c.args.wides.letters in
    let digits = c.members-digits.result in
    let letter : (i : ℕ) → i < 64 → is_set letters i ≡ (class_at bytes i).letter =
    λ i few. set-or c.members.result c.args.wides.letters i ∙ ap₂ (λ a b. a || b) (c.members.ensures i few) (c.requires.wides.letters i few) ∙ (placed i).letter in
    let digit : (i : ℕ) → i < 64 → is_set digits i ≡ (class_at bytes i).digit = λ i few. c.members-digits.ensures i few ∙ (placed i).digit in
    let low : (i : ℕ) → i < 64 → is_set c.members-low_lines.result i ≡ (class_at bytes i).low_line = λ i few. c.members-low_lines.ensures i few ∙ (placed i).low_line in
    let mid_letter = λ (i : ℕ) (few : i < 63).
    mid-at c.between-mid_letters.result c.members-2.result letters (λ j. (class_at bytes j).mid_letter) (λ j. (class_at bytes j).letter) i few
    (c.between-mid_letters.ensures i few) (c.members-2.ensures i (omega arith) ∙ (placed i).mid_letter) letter (placed i).no_letter in
    let mid_digit = λ (i : ℕ) (few : i < 63).
    mid-at c.between-mid_digits.result c.members-3.result digits (λ j. (class_at bytes j).mid_digit) (λ j. (class_at bytes j).digit) i few
    (c.between-mid_digits.ensures i few) (c.members-3.ensures i (omega arith) ∙ (placed i).mid_digit) digit (placed i).no_digit in
    record {
      runs = λ i few.
          set-or (bit_or (bit_or letters digits) c.members-low_lines.result) (bit_or c.between-mid_letters.result c.between-mid_digits.result) i
          ∙ ap₂ (λ a b. a || b)
          (set-or (bit_or letters digits) c.members-low_lines.result i
          ∙ ap₂ (λ a b. a || b) (set-or letters digits i ∙ ap₂ (λ a b. a || b) (letter i (omega arith)) (digit i (omega arith))) (low i (omega arith)))
          (set-or c.between-mid_letters.result c.between-mid_digits.result i ∙ ap₂ (λ a b. a || b) (mid_letter i few) (mid_digit i few));
      begins = λ i few.
          set-and (bit_or letters digits) (bit_not w64 c.args.wides.inner) i
          ∙ ap₂ (λ a b. a && b) (set-or letters digits i ∙ ap₂ (λ a b. a || b) (letter i (omega arith)) (digit i (omega arith)))
          (set-not c.args.wides.inner i (omega arith) (omega arith) ∙ ap not (c.requires.wides.inner i (omega arith)));
      plain = c.requires.wides.plain;
      ends = c.requires.wides.ends;
      fit = fit;
    }
