use Rattle.std.proofs.Common.{◌≡◌, ◌+◌, ◌++◌, false, drop, encode_utf8, inl, inr, sym, ap, subst, ◌∙◌, arith}
use Rattle.std.proofs.lemmas.Bool.{cases_eq, false≢true, not-false}
use Rattle.std.proofs.lemmas.Nat.Bits.{bit_at-zero}
use Rattle.std.specs.Prelude.{◌==◌}
use Rattle.lbk_masks.specs.Sets.{is_set}
use Rattle.lbk_rules.specs.Ends.{ends_line}
use Rattle.lbk_rules.specs.declared.Cell.{Cell}
use Rattle.lbk_passage.specs.Flags.{AreCalm}
use Rattle.lbk_passage.proofs.Passing.{calm-block, calm-quiet, calm-read}
use Rattle.lbk_passage.proofs.reach.past_calm_block.Goals as goal

pub loop-left-init : goal.loop-left-init
loop-left-init g c = record {
  same = λ i few on. on;
  calm = λ i few off. calm-quiet (g.C.CellSource.cell_of c.args.known.now.cells.now) c.args.known.now.flags.is_quiet c.args.piece.now
      (c.args.start + i) c.args.known.now.quiet (not-false _ (sym (c.requires.told i few) ∙ off));
}

pub returns-then-ends_line-clause-calm : goal.returns-then-ends_line-clause-calm
returns-then-ends_line-clause-calm g c =
    let l = c.loop-left in
    calm-block (g.C.CellSource.cell_of c.args.known.now.cells.now) c.args.piece.now c.args.start l.left c.first_set.result l.invariant.calm
    (omega (arith, c.first_set.ensures.within)) c.first_set.ensures.lowest.none

pub loop-left-preserved : goal.loop-left-preserved
loop-left-preserved g c =
    let cell = g.C.CellSource.cell_of c.args.known.now.cells.now in
    let piece = c.args.piece.now in
    let start = c.args.start in
    let l = c.loop-left in
    let index = c.first_set.result in
    let first = c.first_set.ensures in
    let kept = c.without_first-left.ensures.cleared index first.within first.lowest in
    let splits : drop (start + index) piece ≡ encode_utf8 c.in-Some.c ++ c.next.new.self.rest.now =
    sym (c.chars.ensures.rest ∙ c.range_from.ensures.value) ∙ c.in-Some.ensures.steps.0 in
    let none : ends_line (cell c.in-Some.c).class ≡ false =
    ap (λ (k : Cell). ends_line k.class) (sym c.cell.ensures) ∙ sym c.ends_line.ensures ∙ c.if-ends_line.false in
    record {
      same = λ i few on. elim (cases_eq i index) [
        | inl same ↦ absurd (false≢true (sym kept.gone ∙ ap (is_set c.without_first-left.result) (sym same) ∙ on))
        | inr other ↦ l.invariant.same i few (sym (kept.same i few other) ∙ on)
      ];
      calm = λ i few off. elim (cases_eq i index) [
        | inl same ↦ subst (λ n. AreCalm cell piece (start + n) (start + n + 1)) (sym same)
            (calm-read cell piece (start + index) c.in-Some.c c.next.new.self.rest.now splits none)
        | inr other ↦ l.invariant.calm i few (sym (kept.same i few other) ∙ off)
      ];
    }

pub returns-clause-calm : goal.returns-clause-calm
returns-clause-calm g c =
    let l = c.loop-left in
    let zero : l.left ≡ 0 = omega (arith, c.loop-left-test.false) in
    calm-block (g.C.CellSource.cell_of c.args.known.now.cells.now) c.args.piece.now c.args.start l.left 64 l.invariant.calm (omega arith)
    (λ i few. ap (λ n. is_set n i) zero ∙ ap (λ n. n == 1) (bit_at-zero i))
