use Rattle.std.proofs.Common.{rules, Ok, Err, refl, sym, ap, subst, ◌∙◌, arith}
use Rattle.std.proofs.lemmas.Result.{err_from_is_err_and}
use Rattle.lbk_feed.specs.Devices.{count_up}
use Rattle.lbk_passage.specs.Shown.{state_of}
use Rattle.lbk_passage.specs.State.{State}
use Rattle.lbk_cmd.specs.Engines.{engine_by}
use Rattle.lbk_cmd.specs.Ranges.{ReadsBefore, within}
use Rattle.lbk_cmd.specs.Run.{by_passage}
use Rattle.lbk_cmd.proofs.Looping.{Going, Going-new, before-new, range_run, run_none}
use Rattle.lbk_cmd.proofs.Gathering.{counts, ends, held_back, held_counts, limit_kept, on, range_runs, range_unwritten, turned, unwrote, waits, wrote}
use Rattle.lbk_cmd.proofs.Ranging.{range_passed}
use Rattle.lbk_cmd.proofs.ranges.write_range.Goals as goal

pub returns-in_err-segmenter : goal.returns-in_err-segmenter
returns-in_err-segmenter g c =
    let exit = err_from_is_err_and c.from_residual.result c.from_residual.ensures.1 in
    record {
      shown = search rules;
      run = range_run (run_none (by_passage (within c.args.part (engine_by g.C.CellSource.cell_of c.args.lines c.args.how.now)))
          _ _ (g.R.Source.reads_made c.args.reader.now) _ c.from_residual.result refl c.in_err-segmenter.field-0.0 _ (exit.1 ∙ ap Err exit.2)
          c.in_err-segmenter.ensures.only) c.args.part.from c.args.part.to tt;
      reads = search rules;
      limit = search rules;
      failed_reads = search rules;
      failed_writes = search rules;
    }

pub loop-part-init : goal.loop-part-init
loop-part-init g c =
    let e = within c.args.part (engine_by g.C.CellSource.cell_of c.args.lines c.args.how.now) in
    let s = state_of g.C.CellSource.cell_of c.in_ok-segmenter.segmenter in
    let u = g.R.Source.unread c.args.reader.now in
    let w = g.W.Sink.written c.args.writer.now in
    let reads = g.R.Source.reads_made c.args.reader.now in
    let ended = g.R.Source.has_ended c.args.reader.now in
    let begun = subst (λ l. (going : Going (by_passage e) u w reads s u w ended reads l) × ReadsBefore c.args.part.to going.keeps_up) (sym c.new-gathered.ensures.lines)
    (Going-new (by_passage e) u w reads s ended c.in_ok-segmenter.ensures.state refl, before-new (by_passage e) u w reads s ended c.in_ok-segmenter.ensures.state refl c.args.part.to) in
    record {
      going = begun.0;
      before = begun.1;
      read_failures = refl;
      write_failures = refl;
      at = c.new-gathered.ensures.start ∙ sym (ap (λ (s : State). s.start) c.in_ok-segmenter.ensures.state);
    }

pub returns-in_err-write_due : goal.returns-in_err-write_due
returns-in_err-write_due g c =
    let exit = err_from_is_err_and c.from_residual-in_err-write_due.result c.from_residual-in_err-write_due.ensures.1 in
    let l = c.loop-part.invariant in
    rw (exit.1 ∙ ap Err exit.2) (range_unwritten l.going l.before c.in_err-write_due.ensures.writes.front l.read_failures
    (unwrote _ c.write_due.ensures.writes.failures c.in_err-write_due.was ∙ ap count_up l.write_failures)
    (limit_kept c.args.how.now.limit c.new.result c.in_ok-segmenter.segmenter c.in_ok-segmenter.was c.new.ensures.limit))

pub returns-in_err-write : goal.returns-in_err-write
returns-in_err-write g c =
    let exit = err_from_is_err_and c.from_residual-in_err-write.result c.from_residual-in_err-write.ensures.1 in
    let l = c.loop-part.invariant in
    let t = turned c.write_due.ensures.writes c.in_ok-write_due.was c.put_within-put.ensures.puts l.going in
    let answer = sym c.end_of.ensures ∙ c.in-Some.is in
    let settled = waits t c.in-Some.answer answer c.write.result c.in_err-write.field-0.0 c.in_err-write.was (λ none. (c.write.ensures.out.nothing none).0) in
    let front = c.in_err-write.ensures.out.front in
    rw (exit.1 ∙ ap Err exit.2) (range_runs (range_run (held_back t c.in-Some.answer answer settled _ front.0 front.1)
    c.args.part.from c.args.part.to (omega (arith, t.start, l.at, c.loop-part-test.true, c.at.ensures, c.from.ensures), t.before c.args.part.to l.before))
    (held_counts t c.in-Some.answer answer settled l.read_failures l.write_failures (unwrote _ c.write.ensures.out.failures c.in_err-write.was)
    (limit_kept c.args.how.now.limit c.new.result c.in_ok-segmenter.segmenter c.in_ok-segmenter.was c.new.ensures.limit)))

pub returns-in-Some : goal.returns-in-Some
returns-in-Some g c =
    let l = c.loop-part.invariant in
    let t = turned c.write_due.ensures.writes c.in_ok-write_due.was c.put_within-put.ensures.puts l.going in
    let answer = sym c.end_of.ensures ∙ c.in-Some.is in
    range_runs (range_run (ends t c.in-Some.answer answer _ c.in_ok-write.ensures.out.written.1) c.args.part.from c.args.part.to (
      (omega (arith, t.start, l.at, c.loop-part-test.true, c.at.ensures, c.from.ensures), t.before c.args.part.to l.before),
      λ full. (let late = c.put_within-put.ensures.memory full in omega (arith, late, c.write_due.ensures.left.at, l.at, t.start)),
    ))
    (counts t c.in-Some.answer answer l.read_failures l.write_failures (wrote _ c.write.ensures.out.failures c.in_ok-write.was)
    (limit_kept c.args.how.now.limit c.new.result c.in_ok-segmenter.segmenter c.in_ok-segmenter.was c.new.ensures.limit))

pub loop-part-smaller : goal.loop-part-smaller
loop-part-smaller g c =
    let t = turned c.write_due.ensures.writes c.in_ok-write_due.was c.put_within-put.ensures.puts c.loop-part.invariant.going in
    let more = on t (sym c.end_of.ensures ∙ c.in_default.is) in
    omega (arith, t.start, more.onward, more.few)

pub loop-part-preserved : goal.loop-part-preserved
loop-part-preserved g c =
    let l = c.loop-part.invariant in
    let t = turned c.write_due.ensures.writes c.in_ok-write_due.was c.put_within-put.ensures.puts l.going in
    let more = on t (sym c.end_of.ensures ∙ c.in_default.is) in
    record {
      going = more.going;
      before = more.before c.args.part.to
          (omega (arith, t.start, l.at, c.loop-part-test.true, c.at.ensures, c.from.ensures), t.before c.args.part.to l.before);
      read_failures = more.none_failed ∙ l.read_failures;
      write_failures = t.none_failed ∙ l.write_failures;
      at = more.is;
    }

pub returns-in_err-write-2 : goal.returns-in_err-write-2
returns-in_err-write-2 g c =
    let exit = err_from_is_err_and c.from_residual-in_err-write-2.result c.from_residual-in_err-write-2.ensures.1 in
    let l = c.loop-part.invariant in
    rw (exit.1 ∙ ap Err exit.2) (range_unwritten l.going l.before c.in_err-write-2.ensures.out.front l.read_failures
    (unwrote _ c.write-2.ensures.out.failures c.in_err-write-2.was ∙ ap count_up l.write_failures)
    (limit_kept c.args.how.now.limit c.new.result c.in_ok-segmenter.segmenter c.in_ok-segmenter.was c.new.ensures.limit))

pub returns : goal.returns
returns g c =
    let e = within c.args.part (engine_by g.C.CellSource.cell_of c.args.lines c.args.how.now) in
    let l = c.loop-part.invariant in
    range_runs (range_passed e _ _ _ _ _ _ _ _ _ c.args.part.from c.args.part.to l.going l.before
    (omega (arith, l.at, c.loop-part-test.false, c.at.ensures, c.from.ensures)) _ c.in_ok-write-2.ensures.out.written.1)
    (record {
      reads = l.going.most;
      limit = limit_kept c.args.how.now.limit c.new.result c.in_ok-segmenter.segmenter c.in_ok-segmenter.was c.new.ensures.limit (Ok (tt {0})) (λ same. cc);
      failed_reads = l.read_failures;
      failed_writes = wrote _ c.write-2.ensures.out.failures c.in_ok-write-2.was ∙ l.write_failures;
    })
