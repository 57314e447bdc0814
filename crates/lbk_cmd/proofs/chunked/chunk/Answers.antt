use Rattle.std.proofs.Common.{◌≡◌, ◌+◌, ◌≤◌, ◌∙◌, Bool, List, ℕ, Result, Ok, Err, true, refl, sym, ap, subst, inl, inr, ⊎_elim, arith, rules}
use Rattle.std.proofs.lemmas.Result.{err_from_is_err_and}
use Rattle.lbk_feed.specs.Devices.{count_up}
use Rattle.lbk_feed.specs.Text.{longest_text}
use Rattle.lbk_passage.specs.Shown.{state_of}
use Rattle.lbk_passage.specs.declared.faults.PassageFault.{PassageFault}
use Rattle.lbk_chunk_reader.specs.Taking.{TakesNext}
use Rattle.lbk_cmd.specs.Chunk.{chunking, wanted_of}
use Rattle.lbk_cmd.specs.Devices.{devices_of}
use Rattle.lbk_cmd.specs.Chunking.{BreaksOff, IsInOrder, StandsIn, WritesAll}
use Rattle.lbk_cmd.specs.Run.{failed_reads_with}
use Rattle.lbk_cmd.specs.Waiting.{waiting_in}
use Rattle.lbk_cmd.specs.declared.faults.CmdFault.TheVariants as cmd
use Rattle.lbk_cmd.proofs.Chunking.{chunks_finish, none_settled, text_given}
use Rattle.lbk_cmd.proofs.ChunkRuns.{Cuts, CutsDue, all-written, broken-off, came, cuts-due, cuts-new, end-met, ended-so, goes-on, known_chunks, last-broken-off, last-in, last-rising, last-told, most, no-limit, ok-no-limit, onward, refused, refused-failures, still-failures, then-in, then-rising, then-told, unwritten-lines, waited}
use Rattle.lbk_cmd.proofs.Gathering.{Limits, limit_kept, none_made, text_runs, unwrote, write_failed, wrote}
use Rattle.lbk_cmd.proofs.Looping.{ran_unwritten, whole_run}
use Rattle.lbk_cmd.proofs.chunked.chunk.Given.{Over}
use Rattle.lbk_cmd.proofs.chunked.chunk.Goals as goal
use Rattle.lbk_cmd.proofs.chunked.chunk.Goals.{After-take_next}

-- the lines that were due are written, and the next passage was taken
due-in : (g : Over) (c : After-take_next g)
    → CutsDue (wanted_of c.args.asked) c.args.limits (g.C.CellSource.cell_of c.args.cells.now) c.args.profile c.args.limit
    (g.R.Source.unread c.args.reader.now) (g.W.Sink.written c.args.writer.now) (g.R.Source.reads_made c.args.reader.now)
    (state_of g.C.CellSource.cell_of c.loop-window.segmenter) (state_of g.C.CellSource.cell_of c.write_due.new.segmenter)
    (g.R.Source.unread c.loop-window.reader) (g.W.Sink.written c.loop-window.writer) (g.W.Sink.written c.write_due.new.writer)
    (g.R.Source.has_ended c.loop-window.reader) (g.R.Source.reads_made c.loop-window.reader)
    (waiting_in c.write_due.new.self) c.loop-window.window
due-in g c =
    cuts-due (wanted_of c.args.asked) c.args.limits (g.C.CellSource.cell_of c.args.cells.now) c.args.profile c.args.limit _ _ _
    (state_of g.C.CellSource.cell_of c.loop-window.segmenter) (state_of g.C.CellSource.cell_of c.write_due.new.segmenter)
    _ _ _ _ _ _ _ _ c.loop-window.invariant.cuts c.write_due.ensures.state
    (⊎_elim inl (λ k. inr (k.0, ap g.W.Sink.written k.1, k.2)) c.in_ok-write_due.ensures.due)

abbrev Takes : (g : Over) → After-take_next g → Result Bool PassageFault → Type 0
Takes g c answer =
    TakesNext (state_of g.C.CellSource.cell_of c.write_due.new.segmenter) (state_of g.C.CellSource.cell_of c.take_next.new.segmenter)
    (g.R.Source.unread c.loop-window.reader) (g.R.Source.unread c.take_next.new.reader)
    (g.R.Source.has_ended c.loop-window.reader) (g.R.Source.has_ended c.take_next.new.reader)
    (g.R.Source.reads_made c.loop-window.reader) (g.R.Source.reads_made c.take_next.new.reader)
    (g.R.Source.failure_count c.loop-window.reader) (g.R.Source.failure_count c.take_next.new.reader)
    c.loop-window.window c.take_next.new.self answer

taken-in : (g : Over) (c : After-take_next g) → Takes g c c.take_next.result
taken-in g c = c.take_next.ensures.next (due-in g c).cuts.chunked.stands.words

reads-in : (g : Over) (c : After-take_next g) → (g.R.Source.reads_made c.take_next.new.reader).count ≤ (g.R.Source.reads_made c.args.reader.now).count + (longest_text + 1)
reads-in g c = most _ _ _ _ _ _ _ _ _ _ _ _ _ _ _ _ _ _ _ _ _ _ (due-in g c).cuts (due-in g c).wait c.take_next.result (taken-in g c)

writes-in : (g : Over) (c : After-take_next g) → g.W.Sink.failure_count c.write_due.new.writer ≡ g.W.Sink.failure_count c.args.writer.now
writes-in g c = wrote _ c.write_due.ensures.failures c.in_ok-write_due.was ∙ c.loop-window.invariant.write_failures

limits-in : (g : Over) (c : After-take_next g) → Limits c.args.limit
limits-in g c = limit_kept c.args.limit c.new.result c.in_ok-segmenter.segmenter c.in_ok-segmenter.was c.new.ensures.limit

pub returns-in_err-segmenter : goal.returns-in_err-segmenter
returns-in_err-segmenter g c =
    let exit = err_from_is_err_and c.from_residual.result c.from_residual.ensures.1 in
    let cell = g.C.CellSource.cell_of c.args.cells.now in
    none_made _ (chunking (wanted_of c.args.asked) c.args.limits cell c.args.profile c.args.limit)
    (devices_of g.R.Source g.W.Sink c.args.reader.now c.args.writer.now)
    c.from_residual.result c.in_err-segmenter.field-0.0
    (none_settled (wanted_of c.args.asked) c.args.limits cell c.args.profile c.args.limit) (exit.1 ∙ ap Err exit.2)
    c.in_err-segmenter.ensures.only (search rules)

pub loop-window-init : goal.loop-window-init
loop-window-init g c =
    let cell = g.C.CellSource.cell_of c.args.cells.now in
    let u = g.R.Source.unread c.args.reader.now in
    let w = g.W.Sink.written c.args.writer.now in
    let reads = g.R.Source.reads_made c.args.reader.now in
    let ended = g.R.Source.has_ended c.args.reader.now in
    let s = state_of g.C.CellSource.cell_of c.in_ok-segmenter.segmenter in
    let window = c.new-window.result in
    record {
      cuts = subst (λ (x : List ℕ). Cuts (wanted_of c.args.asked) c.args.limits cell c.args.profile c.args.limit u w reads s u w ended reads x window) (sym c.new-waiting.ensures)
          (cuts-new (wanted_of c.args.asked) c.args.limits cell c.args.profile c.args.limit u w reads s ended window c.new-window.ensures.new c.new-window.ensures.keeps c.in_ok-segmenter.ensures.state);
      read_failures = refl;
      write_failures = refl;
    }

pub returns-in_err-write_due : goal.returns-in_err-write_due
returns-in_err-write_due g c =
    let cell = g.C.CellSource.cell_of c.args.cells.now in
    let exit = err_from_is_err_and c.from_residual-in_err-write_due.result c.from_residual-in_err-write_due.ensures.1 in
    let l = c.loop-window.invariant in
    let front = c.in_err-write_due.ensures.front in
    rw (exit.1 ∙ ap Err exit.2) (text_runs tt tt
    (whole_run (ran_unwritten (chunking (wanted_of c.args.asked) c.args.limits cell c.args.profile c.args.limit) _ _ _ _ _ _ _ _ _ l.cuts.going
    (chunks_finish (wanted_of c.args.asked) c.args.limits cell c.args.profile c.args.limit) (Unit {0}) _ front.0 front.1))
    (write_failed l.cuts.going.most l.read_failures (unwrote _ c.write_due.ensures.failures c.in_err-write_due.was ∙ ap count_up l.write_failures)
    (limit_kept c.args.limit c.new.result c.in_ok-segmenter.segmenter c.in_ok-segmenter.was c.new.ensures.limit)))

pub write_chunks-requires : goal.write_chunks-requires
write_chunks-requires g c =
    let turn = (goal.at.write_chunks-requires g c).After-take_next in
    let d = due-in g turn in
    let k = came _ _ _ _ _ _ _ _ _ _ _ _ _ _ _ _ _ _ _ _ _ _ d.cuts d.wait (subst (Takes g turn) (c.in-Ok-true.is ∙ ap Ok c.in-Ok-true.field-0-test) (taken-in g turn)) in
    record {
      rising = then-rising _ _ _ _ _ _ _ _ _ _ _ _ _ _ _ _ _ _ _ _ _ _ d.cuts d.wait k;
      told = then-told _ _ _ _ _ _ _ _ _ _ _ _ _ _ _ _ _ _ _ _ _ _ d.cuts d.wait k;
    }

pub loop-window-smaller : goal.loop-window-smaller
loop-window-smaller g c =
    let turn = (goal.at.loop-window-smaller g c).After-take_next in
    let d = due-in g turn in
    let k = came _ _ _ _ _ _ _ _ _ _ _ _ _ _ _ _ _ _ _ _ _ _ d.cuts d.wait (subst (Takes g turn) (c.in-Ok-true.is ∙ ap Ok c.in-Ok-true.field-0-test) (taken-in g turn)) in
    let more = onward _ _ _ _ _ _ _ _ _ _ _ _ _ _ _ _ _ _ _ _ _ _ d.cuts d.wait k in
    omega (arith, d.start, more.0, more.1)

pub loop-window-preserved : goal.loop-window-preserved
loop-window-preserved g c =
    let turn = (goal.at.loop-window-preserved g c).After-take_next in
    let d = due-in g turn in
    let k = came _ _ _ _ _ _ _ _ _ _ _ _ _ _ _ _ _ _ _ _ _ _ d.cuts d.wait (subst (Takes g turn) (c.in-Ok-true.is ∙ ap Ok c.in-Ok-true.field-0-test) (taken-in g turn)) in
    let gives = c.in_ok-write_chunks-in-Ok-true.ensures.gives _ (then-in _ _ _ _ _ _ _ _ _ _ _ _ _ _ _ _ _ _ _ _ _ _ d.cuts d.wait k) in
    record {
      cuts = goes-on _ _ _ _ _ _ _ _ _ _ _ _ _ _ _ _ _ _ _ _ _ _ d.cuts d.wait k c.write_chunks.new.window _ _ gives.0 gives.1;
      read_failures = k.none_failed ∙ c.loop-window.invariant.read_failures;
      write_failures = wrote _ c.write_chunks.ensures.failures c.in_ok-write_chunks-in-Ok-true.was ∙ writes-in g turn;
    }

pub returns-in_err-write_chunks-in-Ok-true : goal.returns-in_err-write_chunks-in-Ok-true
returns-in_err-write_chunks-in-Ok-true g c =
    let turn = (goal.at.returns-in_err-write_chunks-in-Ok-true g c).After-take_next in
    let d = due-in g turn in
    let k = came _ _ _ _ _ _ _ _ _ _ _ _ _ _ _ _ _ _ _ _ _ _ d.cuts d.wait (subst (Takes g turn) (c.in-Ok-true.is ∙ ap Ok c.in-Ok-true.field-0-test) (taken-in g turn)) in
    let exit = err_from_is_err_and c.from_residual-in_err-write_chunks-in-Ok-true.result c.from_residual-in_err-write_chunks-in-Ok-true.ensures.1 in
    rw (exit.1 ∙ ap Err exit.2) (text_runs tt tt
    (broken-off _ _ _ _ _ _ _ _ _ _ _ _ _ _ _ _ _ _ _ _ _ _ d.cuts d.wait k _ (c.in_err-write_chunks-in-Ok-true.ensures.gives _ (then-in _ _ _ _ _ _ _ _ _ _ _ _ _ _ _ _ _ _ _ _ _ _ d.cuts d.wait k)))
    (write_failed (reads-in g turn) (k.none_failed ∙ c.loop-window.invariant.read_failures)
    (unwrote _ c.write_chunks.ensures.failures c.in_err-write_chunks-in-Ok-true.was ∙ ap count_up (writes-in g turn)) (limits-in g turn)))

pub write_last-requires : goal.write_last-requires
write_last-requires g c =
    let turn = (goal.at.write_last-requires g c).After-take_next in
    let d = due-in g turn in
    let k = ended-so _ _ _ _ _ _ _ _ _ _ _ _ _ _ _ _ _ _ _ _ _ _ d.cuts d.wait (subst (Takes g turn) (c.in-Ok-false.is ∙ ap Ok c.in-Ok-false.field-0-test) (taken-in g turn)) in
    subst IsInOrder (sym k.1) (record {
      rising = last-rising _ _ _ _ _ _ _ _ _ _ _ _ _ _ _ _ _ 0 0 _ _ c.loop-window.window d.cuts d.wait k.0;
      told = last-told _ _ _ _ _ _ _ _ _ _ _ _ _ _ _ _ _ 0 0 _ _ c.loop-window.window d.cuts d.wait k.0;
    })

pub returns-in_err-write_last-in-Ok-false : goal.returns-in_err-write_last-in-Ok-false
returns-in_err-write_last-in-Ok-false g c =
    let turn = (goal.at.returns-in_err-write_last-in-Ok-false g c).After-take_next in
    let d = due-in g turn in
    let k = ended-so _ _ _ _ _ _ _ _ _ _ _ _ _ _ _ _ _ _ _ _ _ _ d.cuts d.wait (subst (Takes g turn) (c.in-Ok-false.is ∙ ap Ok c.in-Ok-false.field-0-test) (taken-in g turn)) in
    let exit = err_from_is_err_and c.from_residual-in_err-write_last-in-Ok-false.result c.from_residual-in_err-write_last-in-Ok-false.ensures.1 in
    let text = text_given d.cuts.going.standing.given in
    rw (exit.1 ∙ ap Err exit.2) (text_runs tt tt
    (last-broken-off _ _ _ _ _ _ _ _ _ _ _ _ _ _ _ _ _ 0 0 _ _ c.loop-window.window d.cuts d.wait k.0 _
    (subst (λ x. BreaksOff (wanted_of c.args.asked) text true x (g.W.Sink.written c.write_due.new.writer) (g.W.Sink.written c.write_last.new.writer) (waiting_in c.write_due.new.self)) k.1
    (c.in_err-write_last-in-Ok-false.ensures.front text
    (subst (StandsIn (wanted_of c.args.asked) text) (sym k.1) (last-in _ _ _ _ _ _ _ _ _ _ _ _ _ _ _ _ _ 0 0 _ _ c.loop-window.window d.cuts d.wait k.0)))))
    (write_failed (reads-in g turn) (k.2 ∙ c.loop-window.invariant.read_failures)
    (unwrote _ c.write_last.ensures.failures c.in_err-write_last-in-Ok-false.was ∙ ap count_up (writes-in g turn)) (limits-in g turn)))

pub returns-in-Ok-false : goal.returns-in-Ok-false
returns-in-Ok-false g c =
    let turn = (goal.at.returns-in-Ok-false g c).After-take_next in
    let d = due-in g turn in
    let k = ended-so _ _ _ _ _ _ _ _ _ _ _ _ _ _ _ _ _ _ _ _ _ _ d.cuts d.wait (subst (Takes g turn) (c.in-Ok-false.is ∙ ap Ok c.in-Ok-false.field-0-test) (taken-in g turn)) in
    let end = end-met _ _ _ _ _ _ _ _ _ _ _ _ _ _ _ _ _ 0 0 _ _ c.loop-window.window d.cuts d.wait k.0 in
    let text = text_given d.cuts.going.standing.given in
    let run = all-written _ _ _ _ _ _ _ _ _ _ _ _ _ _ _ _ _ 0 0 _ _ c.loop-window.window d.cuts d.wait k.0 _
    (subst (λ x. WritesAll (wanted_of c.args.asked) text x (g.W.Sink.written c.write_due.new.writer) (g.W.Sink.written c.write_last.new.writer) (waiting_in c.write_due.new.self)) k.1
    (c.in_ok-write_last-in-Ok-false.ensures.all text (subst (StandsIn (wanted_of c.args.asked) text) (sym k.1) (last-in _ _ _ _ _ _ _ _ _ _ _ _ _ _ _ _ _ 0 0 _ _ c.loop-window.window d.cuts d.wait k.0)))) in
    text_runs (known_chunks (wanted_of c.args.asked) c.args.limits (g.C.CellSource.cell_of c.args.cells.now) c.args.profile c.args.limit _ _ _ _ _ _ _ run end.1) end run (record {
      reads = reads-in g turn;
      limit = limits-in g turn (Ok (tt {0})) (ok-no-limit (Ok (tt {0})) refl);
      failed_reads = k.2 ∙ c.loop-window.invariant.read_failures;
      failed_writes = wrote _ c.write_last.ensures.failures c.in_ok-write_last-in-Ok-false.was ∙ writes-in g turn;
    })

pub returns-in_err-write-in-Err : goal.returns-in_err-write-in-Err
returns-in_err-write-in-Err g c =
    let turn = (goal.at.returns-in_err-write-in-Err g c).After-take_next in
    let d = due-in g turn in
    let exit = err_from_is_err_and c.from_residual-in_err-write-in-Err.result c.from_residual-in_err-write-in-Err.ensures.1 in
    let n = subst (Takes g turn) c.in-Err.is (taken-in g turn) in
    let settled = waited (state_of g.C.CellSource.cell_of c.write_due.new.segmenter) (waiting_in c.write_due.new.self) d.wait c.write.result c.in_err-write-in-Err.field-0.0 c.in_err-write-in-Err.was (λ none. (c.write.ensures.out.nothing none).0) in
    let front = c.in_err-write-in-Err.ensures.out.front in
    rw (exit.1 ∙ ap Err exit.2) (text_runs tt tt
    (unwritten-lines _ _ _ _ _ _ _ _ _ _ _ _ _ _ _ _ _ _ _ _ _ _ d.cuts d.wait c.in-Err.fault n settled _ front.0 front.1)
    (write_failed (reads-in g turn) (still-failures _ _ _ _ _ _ _ _ _ _ _ _ _ _ _ _ _ _ _ _ _ _ d.cuts d.wait c.in-Err.fault n settled ∙ c.loop-window.invariant.read_failures)
    (unwrote _ c.write.ensures.out.failures c.in_err-write-in-Err.was ∙ ap count_up (writes-in g turn)) (limits-in g turn)))

pub returns-in-Err : goal.returns-in-Err
returns-in-Err g c =
    let turn = (goal.at.returns-in-Err g c).After-take_next in
    let d = due-in g turn in
    let n = subst (Takes g turn) c.in-Err.is (taken-in g turn) in
    text_runs tt tt (refused _ _ _ _ _ _ _ _ _ _ _ _ _ _ _ _ _ _ _ _ _ _ d.cuts d.wait c.in-Err.fault n _ c.in_ok-write-in-Err.ensures.out.written.1) (record {
      reads = reads-in g turn;
      limit = limits-in g turn _ (λ same. no-limit _ _ _ _ _ _ _ _ _ _ _ _ _ _ _ _ _ _ _ _ _ _ d.cuts d.wait (Err (cmd.Passage c.in-Err.fault)) c.in-Err.fault refl n same);
      failed_reads = refused-failures _ _ _ _ _ _ _ _ _ _ _ _ _ _ _ _ _ _ _ _ _ _ d.cuts d.wait c.in-Err.fault n
          ∙ ap (λ k. failed_reads_with {X = Unit {0}} k (Err (cmd.Passage c.in-Err.fault))) c.loop-window.invariant.read_failures;
      failed_writes = wrote _ c.write.ensures.out.failures c.in_ok-write-in-Err.was ∙ writes-in g turn;
    })
