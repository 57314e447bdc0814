use Rattle.std.proofs.Common.{arith}
use Rattle.lbk_bytes.proofs.MarkBitLemmas.{marked-both, marked-last, marked-whole}
use Rattle.lbk_bytes.proofs.marks.mark_bits.Goals as goal
use Rattle.lbk_bytes.proofs.marks.mark_bits.Goals.{else-shift-ne0-via-then-shift-ne0+else-word-words, else-shift-ne0-via-else-shift-ne0}

pub returns-then-word-words : goal.returns-then-word-words
returns-then-word-words c = λ i within.
    marked-both c.args.words.now c.join.new.words c.join-then-word-words.new.words c.args.index c.args.bits i c.ranges.bits.fits
    (c.join.ensures i) (c.join-then-word-words.ensures i)

pub returns-else-shift-ne0 : goal.returns-else-shift-ne0
returns-else-shift-ne0 c = λ i within.
    elim c.else-shift-ne0.branch [
      | else-shift-ne0-via-then-shift-ne0+else-word-words w ↦
          marked-last c.args.words.now c.join.new.words c.args.index c.args.bits i c.ranges.bits.fits (let last = w.if-word-words.false in omega arith) (c.join.ensures i)
      | else-shift-ne0-via-else-shift-ne0 w ↦
          marked-whole c.args.words.now c.join.new.words c.args.index c.args.bits i c.ranges.bits.fits w.if-shift-ne0.false (c.join.ensures i)
    ]
