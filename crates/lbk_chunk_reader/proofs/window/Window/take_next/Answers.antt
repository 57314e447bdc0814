use Rattle.std.proofs.Common.{Ok, ap, subst, ◌∙◌}
use Rattle.lbk_passage.specs.Next.{AfterNext, failures_with, fault_in}
use Rattle.lbk_passage.specs.Shown.{state_of}
use Rattle.lbk_chunk_reader.proofs.CallLemmas.{takes-some}
use Rattle.lbk_chunk_reader.proofs.window.Window.take_next.Goals as goal

pub returns-in-Ok-clause-next : goal.returns-in-Ok-clause-next
returns-in-Ok-clause-next g c = λ few.
    let was = c.in_ok-passage.was ∙ ap Ok c.in-Some.is in
    let s = state_of g.C.CellSource.cell_of c.args.segmenter.now in
    let a = subst (λ r. AfterNext s (state_of g.C.CellSource.cell_of c.next.follows.lender-at-none)
    (g.R.Source.unread c.args.reader.now) (g.R.Source.unread c.next.new.reader) (g.R.Source.has_ended c.args.reader.now)
    (g.R.Source.has_ended c.next.new.reader)
    (g.R.Source.reads_made c.args.reader.now) (g.R.Source.reads_made c.next.new.reader) r) was
    c.next.follows.holds-at-none.0 in
    let failed = c.next.ensures.failures ∙ ap
    (λ r. failures_with (g.R.Source.failure_count c.args.reader.now) (fault_in r)) was in
    takes-some s (state_of g.C.CellSource.cell_of c.next.follows.lender-at-none) (g.R.Source.unread c.args.reader.now)
    (g.R.Source.unread c.next.new.reader)
    (g.R.Source.has_ended c.args.reader.now) (g.R.Source.has_ended c.next.new.reader)
    (g.R.Source.reads_made c.args.reader.now) (g.R.Source.reads_made c.next.new.reader)
    (g.R.Source.failure_count c.args.reader.now) (g.R.Source.failure_count c.next.new.reader)
    c.args.self.now c.take.new.self c.in-Some.passage a failed few c.in-Ok.ensures.taken
