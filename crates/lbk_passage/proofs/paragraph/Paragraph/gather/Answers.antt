use Rattle.std.proofs.Common.{false, inl, inr, Some, Ok, Err, refl, sym, ap, ◌∙◌}
use Rattle.std.proofs.lemmas.Result.{err_from_is_err_and}
use Rattle.lbk_passage.specs.Next.{failures_with, fault_in}
use Rattle.lbk_passage.proofs.Gathered.{Gathering-none, still_done, turn-end, turn-more, turn-less, turn-line, turn-long, turn-fault}
use Rattle.lbk_passage.specs.Stays.{end_before}
use Rattle.lbk_passage.proofs.Settling.{ok_err, true_false}
use Rattle.lbk_passage.proofs.paragraph.Paragraph.gather.Goals as goal

pub loop-self-init : goal.loop-self-init
loop-self-init g c = record {
  gathering = Gathering-none (g.C.CellSource.cell_of c.args.known.now.cells.now) c.args.self.now _ _ _ c.requires.fresh c.requires.open_end c.requires.unspent;
  gathered = c.requires.gathered;
  failures = refl;
  quiet = λ h. (refl, h);
}

pub returns-in_err-settle-clause-gathers : goal.returns-in_err-settle-clause-gathers
returns-in_err-settle-clause-gathers g c =
    let p = err_from_is_err_and c.from_residual.result c.from_residual.ensures.1 in
    rw p.1 (turn-fault (g.C.CellSource.cell_of c.args.known.now.cells.now) c.args.self.now _ _ _ c.loop-self.self c.settle.new.self c.loop-self.last _ _ _ _ _ _ c.settle.result
    c.loop-self.invariant.gathering c.settle.ensures.settles p.0 (c.in_err-settle.was ∙ ap Err (sym p.2)))

pub loop-self-smaller : goal.loop-self-smaller
loop-self-smaller g c =
    turn-less (g.C.CellSource.cell_of c.args.known.now.cells.now) c.args.self.now _ _ _ c.loop-self.self c.settle.new.self c.loop-self.last _ _ _ _ _ _ c.settle.result
    c.loop-self.invariant.gathering c.settle.ensures.settles c.in_ok-settle.field-0 c.in_ok-settle.was c.if-branch.true
    c.take-reach.new.self c.take-reach.result c.take-reach.ensures.takes c.in-PieceEnds.is

pub loop-self-preserved : goal.loop-self-preserved
loop-self-preserved g c = record {
  gathering = turn-more (g.C.CellSource.cell_of c.args.known.now.cells.now) c.args.self.now _ _ _ c.loop-self.self c.settle.new.self c.loop-self.last _ _ _ _ _ _ c.settle.result
      c.loop-self.invariant.gathering c.settle.ensures.settles c.in_ok-settle.field-0 c.in_ok-settle.was c.if-branch.true
      c.take-reach.new.self c.take-reach.result c.take-reach.ensures.takes;
  gathered = c.take-reach.ensures.gathered;
  failures = c.settle.ensures.reads_on.failures ∙ ap (λ r. failures_with (g.R.Source.failure_count c.loop-self.reader) (fault_in r)) c.in_ok-settle.was ∙ c.loop-self.invariant.failures;
  quiet = λ h. let q = c.loop-self.invariant.quiet h in
      (c.settle.ensures.reads_on.quiet q.1 ∙ q.0, c.take-reach.ensures.takes.ended ∙ (c.settle.ensures.settles.steps.same (inr (inl q.1))).2 ∙ q.1);
}

pub returns-in-LineEnds-clause-gathers : goal.returns-in-LineEnds-clause-gathers
returns-in-LineEnds-clause-gathers g c =
    turn-line (g.C.CellSource.cell_of c.args.known.now.cells.now) c.args.self.now _ _ _ c.loop-self.self c.settle.new.self c.loop-self.last _ _ _ _ _ _ c.settle.result
    c.loop-self.invariant.gathering c.settle.ensures.settles c.in_ok-settle.field-0 c.in_ok-settle.was c.if-branch.true
    c.take-reach.new.self c.take-reach.result c.take-reach.ensures.takes c.end_before.result c.in-LineEnds.is c.end_before.ensures

pub returns-in-NoRoom-clause-gathers : goal.returns-in-NoRoom-clause-gathers
returns-in-NoRoom-clause-gathers g c =
    turn-long (g.C.CellSource.cell_of c.args.known.now.cells.now) c.args.self.now _ _ _ c.loop-self.self c.settle.new.self c.loop-self.last _ _ _ _ _ _ c.settle.result
    c.loop-self.invariant.gathering c.settle.ensures.settles c.in_ok-settle.field-0 c.in_ok-settle.was c.if-branch.true
    c.take-reach.new.self c.take-reach.result c.take-reach.ensures.takes c.refuse.new.self c.refuse.result c.refuse.ensures.same c.in-NoRoom.is c.refuse.ensures.fault

pub returns-clause-gathers : goal.returns-clause-gathers
returns-clause-gathers g c =
    turn-end (g.C.CellSource.cell_of c.args.known.now.cells.now) c.args.self.now _ _ _ c.loop-self.self c.settle.new.self c.loop-self.last _ _ _ _ _ _ c.settle.result
    c.loop-self.invariant.gathering c.settle.ensures.settles c.in_ok-settle.field-0 c.in_ok-settle.was c.end_before-2.result c.if-branch.false c.end_before-2.ensures

pub returns-in_err-settle-clause-reads_on : goal.returns-in_err-settle-clause-reads_on
returns-in_err-settle-clause-reads_on g c =
    let p = err_from_is_err_and c.from_residual.result c.from_residual.ensures.1 in
    let was = c.in_err-settle.was ∙ ap Err (sym p.2) in
    rw p.1 (record {
      failures = c.settle.ensures.reads_on.failures ∙ ap (λ r. failures_with (g.R.Source.failure_count c.loop-self.reader) (fault_in r)) was
          ∙ ap (λ n. failures_with n (Some p.0)) c.loop-self.invariant.failures;
      quiet = λ h. let q = c.loop-self.invariant.quiet h in c.settle.ensures.reads_on.quiet q.1 ∙ q.0;
      again = λ h none.
          let still = still_done (g.C.CellSource.cell_of c.args.known.now.cells.now) c.args.self.now _ _ _ c.loop-self.self c.loop-self.last _ _ _ c.loop-self.invariant.gathering h none in
          absurd (ok_err c.settle.result false _ (c.settle.ensures.reads_on.again still.0 still.1) was);
    })

pub returns-in-LineEnds-clause-reads_on : goal.returns-in-LineEnds-clause-reads_on
returns-in-LineEnds-clause-reads_on g c = record {
  failures = c.settle.ensures.reads_on.failures ∙ ap (λ r. failures_with (g.R.Source.failure_count c.loop-self.reader) (fault_in r)) c.in_ok-settle.was ∙ c.loop-self.invariant.failures;
  quiet = λ h. let q = c.loop-self.invariant.quiet h in c.settle.ensures.reads_on.quiet q.1 ∙ q.0;
  again = λ h none.
      let still = still_done (g.C.CellSource.cell_of c.args.known.now.cells.now) c.args.self.now _ _ _ c.loop-self.self c.loop-self.last _ _ _ c.loop-self.invariant.gathering h none in
      absurd (true_false c.settle.result c.in_ok-settle.field-0 c.in_ok-settle.was c.if-branch.true (c.settle.ensures.reads_on.again still.0 still.1));
}

pub returns-in-NoRoom-clause-reads_on : goal.returns-in-NoRoom-clause-reads_on
returns-in-NoRoom-clause-reads_on g c = record {
  failures = c.settle.ensures.reads_on.failures ∙ ap (λ r. failures_with (g.R.Source.failure_count c.loop-self.reader) (fault_in r)) c.in_ok-settle.was ∙ c.loop-self.invariant.failures
      ∙ sym (ap (λ f. failures_with (g.R.Source.failure_count c.args.reader.now) (Some f)) c.refuse.ensures.fault);
  quiet = λ h. let q = c.loop-self.invariant.quiet h in c.settle.ensures.reads_on.quiet q.1 ∙ q.0;
  again = λ h none.
      let still = still_done (g.C.CellSource.cell_of c.args.known.now.cells.now) c.args.self.now _ _ _ c.loop-self.self c.loop-self.last _ _ _ c.loop-self.invariant.gathering h none in
      absurd (true_false c.settle.result c.in_ok-settle.field-0 c.in_ok-settle.was c.if-branch.true (c.settle.ensures.reads_on.again still.0 still.1));
}

pub returns-clause-reads_on : goal.returns-clause-reads_on
returns-clause-reads_on g c = record {
  failures = c.settle.ensures.reads_on.failures ∙ ap (λ r. failures_with (g.R.Source.failure_count c.loop-self.reader) (fault_in r)) c.in_ok-settle.was ∙ c.loop-self.invariant.failures;
  quiet = λ h. let q = c.loop-self.invariant.quiet h in c.settle.ensures.reads_on.quiet q.1 ∙ q.0;
  again = λ h none.
      let still = still_done (g.C.CellSource.cell_of c.args.known.now.cells.now) c.args.self.now _ _ _ c.loop-self.self c.loop-self.last _ _ _ c.loop-self.invariant.gathering h none in
      ap Ok (c.end_before-2.ensures ∙ ap (λ k. end_before k false) still.2);
}
