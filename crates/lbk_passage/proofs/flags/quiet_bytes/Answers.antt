use Rattle.std.proofs.Common.{◌≡◌, ◌<◌, false, true, not, length, set, slice_index_or, sym, ap, subst, ◌∙◌, arith}
use Rattle.std.proofs.lemmas.List.{length-set}
use Rattle.lbk_rules.specs.Ends.{ends_line}
use Rattle.lbk_rules.specs.FirstBytes.{AreQuiet}
use Rattle.lbk_passage.proofs.FlagLemmas.{AreQuiet-ascii, AreQuiet-later, later-more}
use Rattle.lbk_passage.proofs.flags.quiet_bytes.Goals as goal

pub loop-byte-preserved : goal.loop-byte-preserved
loop-byte-preserved g c =
    let cell = g.C.CellSource.cell_of c.args.cells.now in
    let byte = c.loop-byte.byte in
    let quiet = c.loop-byte.is_quiet in
    let ends : ends_line (cell byte).class ≡ c.ends_line.result =
    ap (λ k. ends_line k.class) (sym (c.cell-class.ensures ∙ ap cell c.from.ensures)) ∙ sym c.ends_line.ensures in
    let within : byte < length quiet = omega (arith, c.loop-byte-test.true, c.loop-byte.invariant.quiet_len) in
    record {
      quiet = subst (λ k. AreQuiet cell (set quiet k (not c.ends_line.result))) (sym c.from-in-loop-byte.ensures)
          (subst (λ b. AreQuiet cell (set quiet byte (not b))) ends (AreQuiet-ascii cell quiet byte c.loop-byte-test.true within c.loop-byte.invariant.quiet));
      quiet_len = simp length-set c.loop-byte.invariant.quiet_len;
      within = omega (arith, c.loop-byte-test.true);
    }

pub loop-byte-2-preserved : goal.loop-byte-2-preserved
loop-byte-2-preserved g c =
    let cell = g.C.CellSource.cell_of c.args.cells.now in
    let byte = c.loop-byte-2.byte in
    let quiet = c.loop-byte-2.is_quiet in
    let to = c.loop-byte-2.invariant in
    let within : byte < length quiet = omega (arith, c.loop-byte-2-test.true, to.quiet_len) in
    record {
      quiet = subst (λ k. AreQuiet cell (set quiet k true)) (sym c.from-in-loop-byte-2.ensures)
          (AreQuiet-later cell quiet byte to.from c.loop-byte-2-test.true to.quiet);
      later = λ k from before. subst (λ j. slice_index_or (set quiet j true) k false ≡ true) (sym c.from-in-loop-byte-2.ensures)
          (later-more quiet byte within to.later k from before);
      quiet_len = simp length-set to.quiet_len;
      from = omega (arith, to.from);
      within = omega (arith, c.loop-byte-2-test.true);
    }
