use Rattle.std.proofs.Common.{◌+◌, ◌≤◌, rules, None, Ok, Err, [], inl, refl, ap, ◌∙◌}
use Rattle.std.proofs.lemmas.Result.{err_from_is_err_and}
use Rattle.lbk_feed.specs.Text.{longest_text}
use Rattle.lbk_rules.specs.CellPages.{page_cell}
use Rattle.lbk_passage.specs.Next.{failures_with, fault_in}
use Rattle.lbk_passage.specs.Shown.{state_of}
use Rattle.lbk_cmd.specs.Devices.{reader_alone}
use Rattle.lbk_cmd.specs.Engines.{showing}
use Rattle.lbk_cmd.specs.Run.{by_passage}
use Rattle.lbk_cmd.proofs.Gathering.{none_made, text_runs}
use Rattle.lbk_cmd.proofs.Known.{known_whole}
use Rattle.lbk_cmd.proofs.Looping.{most_reads, run_stopped, run_ended, run_out_of_memory, whole_run}
use Rattle.lbk_cmd.proofs.Owning.{Owning-new, Owning-next, all_owned}
use Rattle.lbk_cmd.proofs.passages.own_passages.Given.{Over}
use Rattle.lbk_cmd.proofs.passages.own_passages.Goals as goal
use Rattle.lbk_cmd.proofs.passages.own_passages.Goals.{After-next}

-- no more reads than a text may take were made
reads-in : (g : Over) (c : After-next g) → (g.R.Source.reads_made c.next.new.reader).count ≤ (g.R.Source.reads_made c.args.reader.now).count + (longest_text + 1)
reads-in g c =
    most_reads (by_passage (showing (page_cell c.args.cells.now) c.args.profile c.args.limit)) _ _ _ _ _ _ _ _ _ _ _ _ []
    c.loop-segmenter.invariant.owning.going (inl refl) c.next.result c.next.follows.holds-at-none.0

pub returns-in_err-segmenter-clause-shows : goal.returns-in_err-segmenter-clause-shows
returns-in_err-segmenter-clause-shows g c =
    let exit = err_from_is_err_and c.from_residual.result c.from_residual.ensures.1 in
    none_made _ (by_passage (showing (page_cell c.args.cells.now) c.args.profile c.args.limit))
    (reader_alone g.R.Source c.args.reader.now) c.from_residual.result c.in_err-segmenter.field-0.0 refl
    (exit.1 ∙ ap Err exit.2) c.in_err-segmenter.ensures.only (search rules)

pub loop-segmenter-init : goal.loop-segmenter-init
loop-segmenter-init g c = record {
  owning = Owning-new (showing (page_cell c.args.cells.now) c.args.profile c.args.limit) _ _
      (state_of page_cell c.in_ok-segmenter.segmenter) _ _ c.in_ok-segmenter.ensures.state c.requires;
  read_failures = refl;
}

pub returns-in_err-passage-clause-shows : goal.returns-in_err-passage-clause-shows
returns-in_err-passage-clause-shows g c =
    let exit = err_from_is_err_and c.from_residual-in_err-passage.result c.from_residual-in_err-passage.ensures.1 in
    let run = whole_run (run_stopped (by_passage (showing (page_cell c.args.cells.now) c.args.profile c.args.limit)) _ _ _ _
    c.from_residual-in_err-passage.result _ _ _ _ _ _ _ _ _ c.next.result [] c.loop-segmenter.invariant.owning.going (inl refl) c.next.follows.holds-at-none.0 None tt
    c.in_err-passage.field-0.0 c.in_err-passage.was (exit.1 ∙ ap Err exit.2)) in
    let reads = reads-in g (goal.at.returns-in_err-passage-clause-shows g c).After-next in
    text_runs (search rules) (search rules) run
    (record { reads = reads; limit = search rules; failed_reads = search rules; failed_writes = search rules })

pub returns-in_err-push_owned-clause-shows : goal.returns-in_err-push_owned-clause-shows
returns-in_err-push_owned-clause-shows g c =
    let exit = err_from_is_err_and c.from_residual-in_err-push_owned.result c.from_residual-in_err-push_owned.ensures.1 in
    let run = whole_run (run_out_of_memory (by_passage (showing (page_cell c.args.cells.now) c.args.profile c.args.limit)) _ _ _ _
    c.from_residual-in_err-push_owned.result _ _ _ _ _ _ _ _ _ c.next.result [] c.loop-segmenter.invariant.owning.going (inl refl) c.next.follows.holds-at-none.0 None tt
    c.in-Some.passage (c.in_ok-passage.was ∙ ap Ok c.in-Some.is) (exit.1 ∙ ap Err exit.2)) in
    let reads = reads-in g (goal.at.returns-in_err-push_owned-clause-shows g c).After-next in
    text_runs (search rules) (search rules) run
    (record { reads = reads; limit = search rules; failed_reads = search rules; failed_writes = search rules })

pub loop-segmenter-preserved : goal.loop-segmenter-preserved
loop-segmenter-preserved g c =
    let was = c.in_ok-passage.was ∙ ap Ok c.in-Some.is in
    record {
      owning = Owning-next (showing (page_cell c.args.cells.now) c.args.profile c.args.limit) _ _ _ _ _ _ _ _ _ _ c.next.result
          c.loop-segmenter.passages.items c.loop-segmenter.invariant.owning c.next.follows.holds-at-none.0 c.in-Some.passage was _
          c.in_ok-push_owned.ensures;
      read_failures = c.next.ensures.failures ∙ ap (λ r. failures_with (g.R.Source.failure_count c.loop-segmenter.reader) (fault_in r)) was
          ∙ c.loop-segmenter.invariant.read_failures;
    }

pub returns-clause-owned : goal.returns-clause-owned
returns-clause-owned g c =
    all_owned (showing (page_cell c.args.cells.now) c.args.profile c.args.limit) _ _ _ _ _ _ _ _ _ _ c.next.result
    c.loop-segmenter.passages.items c.loop-segmenter.invariant.owning c.next.follows.holds-at-none.0 (c.in_ok-passage.was ∙ ap Ok c.in_default.is)

pub returns-clause-shows : goal.returns-clause-shows
returns-clause-shows g c =
    let run =
    whole_run (run_ended (by_passage (showing (page_cell c.args.cells.now) c.args.profile c.args.limit)) _ _ _ (Unit {0})
    (Ok (tt {0})) _ _ _ _ _ _ _ _ _ c.next.result [] c.loop-segmenter.invariant.owning.going (inl refl) c.next.follows.holds-at-none.0 None tt (tt {0})
    (c.in_ok-passage.was ∙ ap Ok c.in_default.is) c.loop-segmenter.invariant.owning.going.standing.is refl)
    in
    text_runs (known_whole _ (showing (page_cell c.args.cells.now) c.args.profile c.args.limit) _ _ _ (Ok (tt {0})) _ _ _ _ run (search rules)) (search rules) run
    (record { reads = reads-in g (goal.at.returns-clause-shows g c).After-next; limit = search rules; failed_reads = search rules; failed_writes = search rules })
