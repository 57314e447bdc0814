use Rattle.std.proofs.Common.{◌≡◌, ℕ, ◌<◌, ◌≤◌, true, length, set, slice_index_or, sym, ap, subst, ◌∙◌, arith}
use Rattle.std.specs.Char.{IsScalar}
use Rattle.std.proofs.lemmas.List.{length-set}
use Rattle.lbk_rules.specs.FirstBytes.{first_byte}
use Rattle.lbk_passage.specs.Flags.{length_told}
use Rattle.lbk_passage.proofs.FlagLemmas.{letters-longer, longer-set, told-more}
use Rattle.lbk_passage.proofs.flags.lengths_told.Goals as goal

pub loop-byte-2-init : goal.loop-byte-2-init
loop-byte-2-init g c =
    let l = c.loop-byte in
    let letters = c.letter_first_bytes-are_letters in
    record {
      whole = l.invariant.whole;
      told = λ k none. absurd (omega (arith, none));
      longer = letters-longer (g.C.CellSource.cell_of c.args.cells.now) letters.result l.lengths letters.ensures l.invariant.whole
          (λ byte _ few. l.invariant.told byte (omega (arith, few, c.loop-byte-test.false)));
    }

pub loop-byte-2-preserved : goal.loop-byte-2-preserved
loop-byte-2-preserved g c =
    let cell = g.C.CellSource.cell_of c.args.cells.now in
    let l = c.loop-byte-2 in
    let byte = l.byte in
    let low : byte < 128 = omega (arith, c.loop-byte-2-test.true) in
    let told : length_told (cell byte).letter ≡ c.length_told-in-loop-byte-2.result =
    ap (λ k. length_told k.letter) (sym (c.cell-is_letter.ensures ∙ ap cell c.from.ensures)) ∙ sym c.length_told-in-loop-byte-2.ensures in
    let place = sym c.from-in-loop-byte-2.ensures in
    let within : byte < length l.lengths = omega (arith, low, l.invariant.whole) in
    record {
      whole = simp length-set l.invariant.whole;
      told = λ k below. subst (λ at. slice_index_or (set l.lengths at c.length_told-in-loop-byte-2.result) k 0 ≡ length_told (cell k).letter) place
          (subst (λ n. slice_index_or (set l.lengths byte n) k 0 ≡ length_told (cell k).letter) told
          (told-more (λ j. (cell j).letter) l.lengths byte within l.invariant.told k below));
      longer = subst (λ at. (code : ℕ) → IsScalar code → 128 ≤ code → 1 < slice_index_or (set l.lengths at c.length_told-in-loop-byte-2.result) (first_byte code) 0
          → (cell code).letter ≡ true) place
          (longer-set cell l.lengths byte c.length_told-in-loop-byte-2.result low l.invariant.longer);
    }
