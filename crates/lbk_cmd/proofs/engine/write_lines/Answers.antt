use Rattle.std.proofs.Common.{rules, Err, refl, sym, ap, subst, ◌∙◌, arith}
use Rattle.std.proofs.lemmas.Result.{err_from_is_err_and}
use Rattle.lbk_feed.specs.Devices.{count_up}
use Rattle.lbk_passage.specs.Shown.{state_of}
use Rattle.lbk_cmd.specs.Devices.{devices_of}
use Rattle.lbk_cmd.specs.Engines.{engine_by}
use Rattle.lbk_cmd.specs.Run.{by_passage}
use Rattle.lbk_cmd.proofs.Known.{known_whole}
use Rattle.lbk_cmd.proofs.Looping.{Going, Going-new, ran_unwritten, whole_run}
use Rattle.lbk_cmd.proofs.Running.{lines_finish}
use Rattle.lbk_cmd.proofs.Gathering.{counts, ends, held_back, held_counts, limit_kept, none_made, on, text_runs, to_its_end, turned, unwrote, waits, write_failed, wrote}
use Rattle.lbk_cmd.proofs.engine.write_lines.Goals as goal

pub returns-in_err-segmenter : goal.returns-in_err-segmenter
returns-in_err-segmenter g c =
    let exit = err_from_is_err_and c.from_residual.result c.from_residual.ensures.1 in
    none_made _ (by_passage (engine_by g.C.CellSource.cell_of c.args.lines c.args.how.now))
    (devices_of g.R.Source g.W.Sink c.args.reader.now c.args.writer.now)
    c.from_residual.result c.in_err-segmenter.field-0.0 refl (exit.1 ∙ ap Err exit.2) c.in_err-segmenter.ensures.only
    (search rules)

pub loop-gathered-init : goal.loop-gathered-init
loop-gathered-init g c =
    let e = engine_by g.C.CellSource.cell_of c.args.lines c.args.how.now in
    let s = state_of g.C.CellSource.cell_of c.in_ok-segmenter.segmenter in
    let u = g.R.Source.unread c.args.reader.now in
    let w = g.W.Sink.written c.args.writer.now in
    let reads = g.R.Source.reads_made c.args.reader.now in
    let ended = g.R.Source.has_ended c.args.reader.now in
    record {
      going = subst (λ l. Going (by_passage e) u w reads s u w ended reads l) (sym c.new-gathered.ensures.lines) (Going-new (by_passage e) u w reads s ended c.in_ok-segmenter.ensures.state refl);
      read_failures = refl;
      write_failures = refl;
    }

pub returns-in_err-write_due : goal.returns-in_err-write_due
returns-in_err-write_due g c =
    let e = engine_by g.C.CellSource.cell_of c.args.lines c.args.how.now in
    let exit = err_from_is_err_and c.from_residual-in_err-write_due.result c.from_residual-in_err-write_due.ensures.1 in
    let l = c.loop-gathered.invariant in
    let front = c.in_err-write_due.ensures.writes.front in
    let limits = limit_kept c.args.how.now.limit c.new.result c.in_ok-segmenter.segmenter c.in_ok-segmenter.was c.new.ensures.limit in
    rw (exit.1 ∙ ap Err exit.2) (text_runs tt tt
    (whole_run (ran_unwritten (by_passage e) _ _ _ _ _ _ _ _ _ l.going (lines_finish e) (Unit {0}) _ front.0 front.1))
    (write_failed l.going.most l.read_failures (unwrote _ c.write_due.ensures.writes.failures c.in_err-write_due.was ∙ ap count_up l.write_failures) limits))

pub returns-in_err-write : goal.returns-in_err-write
returns-in_err-write g c =
    let exit = err_from_is_err_and c.from_residual-in_err-write.result c.from_residual-in_err-write.ensures.1 in
    let l = c.loop-gathered.invariant in
    let t = turned c.write_due.ensures.writes c.in_ok-write_due.was c.put_next-put.ensures l.going in
    let answer = sym c.end_of.ensures ∙ c.in-Some.is in
    let settled = waits t c.in-Some.answer answer c.write.result c.in_err-write.field-0.0 c.in_err-write.was (λ none. (c.write.ensures.out.nothing none).0) in
    let front = c.in_err-write.ensures.out.front in
    let limits = limit_kept c.args.how.now.limit c.new.result c.in_ok-segmenter.segmenter c.in_ok-segmenter.was c.new.ensures.limit in
    rw (exit.1 ∙ ap Err exit.2) (text_runs tt tt (whole_run (held_back t c.in-Some.answer answer settled _ front.0 front.1))
    (held_counts t c.in-Some.answer answer settled l.read_failures l.write_failures (unwrote _ c.write.ensures.out.failures c.in_err-write.was) limits))

pub returns-in-Some : goal.returns-in-Some
returns-in-Some g c =
    let l = c.loop-gathered.invariant in
    let t = turned c.write_due.ensures.writes c.in_ok-write_due.was c.put_next-put.ensures l.going in
    let answer = sym c.end_of.ensures ∙ c.in-Some.is in
    let run = whole_run (ends t c.in-Some.answer answer _ c.in_ok-write.ensures.out.written.1) in
    let end = to_its_end t c.in-Some.answer answer in
    let limits = limit_kept c.args.how.now.limit c.new.result c.in_ok-segmenter.segmenter c.in_ok-segmenter.was c.new.ensures.limit in
    text_runs (known_whole _ (engine_by g.C.CellSource.cell_of c.args.lines c.args.how.now) _ _ _ c.in-Some.answer _ _ _ _ run end) end run
    (counts t c.in-Some.answer answer l.read_failures l.write_failures (wrote _ c.write.ensures.out.failures c.in_ok-write.was) limits)

pub loop-gathered-smaller : goal.loop-gathered-smaller
loop-gathered-smaller g c =
    let t = turned c.write_due.ensures.writes c.in_ok-write_due.was c.put_next-put.ensures c.loop-gathered.invariant.going in
    let more = on t (sym c.end_of.ensures ∙ c.in_default.is) in
    omega (arith, t.start, more.onward, more.few)

pub loop-gathered-preserved : goal.loop-gathered-preserved
loop-gathered-preserved g c =
    let t = turned c.write_due.ensures.writes c.in_ok-write_due.was c.put_next-put.ensures c.loop-gathered.invariant.going in
    let more = on t (sym c.end_of.ensures ∙ c.in_default.is) in
    record {
      going = more.going;
      read_failures = more.none_failed ∙ c.loop-gathered.invariant.read_failures;
      write_failures = t.none_failed ∙ c.loop-gathered.invariant.write_failures;
    }
