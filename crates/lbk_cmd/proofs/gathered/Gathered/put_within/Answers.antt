use Rattle.std.proofs.Common.{Ok, Err, ap, sym, ◌∙◌, arith, rules}
use Rattle.std.proofs.lemmas.Result.{err_from_is_err_and}
use Rattle.lbk_passage.specs.Next.{failures_with, fault_in}
use Rattle.lbk_passage.specs.Shown.{state_of}
use Rattle.lbk_cmd.specs.Engines.{lines_of}
use Rattle.lbk_cmd.proofs.Ranging.{engine_in, lent_fault, lent_some, puts_fault, puts_here, puts_none}
use Rattle.lbk_cmd.proofs.gathered.Gathered.put_within.Goals as goal

pub returns-then-self-from-clause-puts : goal.returns-then-self-from-clause-puts
returns-then-self-from-clause-puts g c =
    let cell = g.C.CellSource.cell_of c.args.how.now.cells.now in
    let next = c.put_next.ensures in
    let put = next.puts in
    record {
      puts = record {
        lent = put.lent;
        next = put.next;
        failed = put.failed;
        puts = puts_here c.args.part (lines_of c.args.lines cell) cell c.args.how.now.profile c.args.how.now.limit _ _ _ _ _ _ _ _ put.lent _ _ _ _ put.next
            (omega (arith, c.requires.start, c.if-self-from.true, c.from.ensures)) (omega (arith, c.requires.start, c.requires.early)) put.puts;
      };
      settled = next.settled;
    }

pub returns-in_err-end-clause-puts : goal.returns-in_err-end-clause-puts
returns-in_err-end-clause-puts g c =
    let cell = g.C.CellSource.cell_of c.args.how.now.cells.now in
    let exit = err_from_is_err_and c.from_residual.result c.from_residual.ensures.1 in
    let passes = c.pass.ensures.passes in
    let same = lent_fault passes.lent c.in_err-end.field-0.0 (sym c.in_err-end.was ∙ passes.is) in
    record {
      puts = record {
        lent = passes.lent;
        next = passes.after;
        failed = c.pass.ensures.failures ∙ ap (λ r. failures_with (g.R.Source.failure_count c.args.reader.now) (fault_in r)) c.in_err-end.was
            ∙ ap (λ r. failures_with (g.R.Source.failure_count c.args.reader.now) (fault_in r)) (sym same);
        puts = puts_fault (engine_in c.args.part c.args.lines cell c.args.how.now.profile c.args.how.now.limit) (state_of g.C.CellSource.cell_of c.args.segmenter.now) passes.lent
            c.args.self.now.lines.items c.args.self.now.at c.in_err-end.field-0.0 same c.from_residual.result (exit.1 ∙ ap Err exit.2);
      };
      settled = search rules;
    }

pub returns-clause-puts : goal.returns-clause-puts
returns-clause-puts g c =
    let cell = g.C.CellSource.cell_of c.args.how.now.cells.now in
    let passes = c.pass.ensures.passes in
    let was = c.in_ok-end.was ∙ ap Ok c.in-Some.is in
    let is = sym was ∙ passes.is in
    record {
      puts = record {
        lent = passes.lent;
        next = passes.after;
        failed = c.pass.ensures.failures ∙ ap (λ r. failures_with (g.R.Source.failure_count c.args.reader.now) (fault_in r)) was
            ∙ ap (failures_with (g.R.Source.failure_count c.args.reader.now)) (sym (lent_some passes.lent c.in-Some.end is));
        puts = puts_none c.args.part (lines_of c.args.lines cell) cell c.args.how.now.profile c.args.how.now.limit _ _ _ _ _ _ _ _ passes.lent c.in-Some.end c.args.self.now.lines.items
            passes.after is (omega (arith, c.requires.start, c.if-self-from.false, c.from.ensures));
      };
      settled = search rules;
    }
