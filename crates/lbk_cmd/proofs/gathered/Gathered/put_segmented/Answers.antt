use Rattle.std.proofs.Common.{◌≡◌, ◌++◌, Ok, Some, refl, ap, subst, ◌∙◌, inl, inr, length, take, rules}
use Rattle.lbk_passage.specs.Next.{AfterNext, failures_with, fault_in}
use Rattle.lbk_passage.specs.Shown.{state_of}
use Rattle.lbk_cmd.proofs.PassageLines.{segmented-is}
use Rattle.lbk_cmd.proofs.gathered.Gathered.put_segmented.Goals as goal

pub returns-in-Ok : goal.returns-in-Ok
returns-in-Ok g c = λ cell profile limit.
    let was = c.in_ok-passage.was ∙ ap Ok c.in-Some.is in
    let before = c.args.self.now.lines.items in
    let p = c.in-Some.passage in
    let s = state_of g.C.CellSource.cell_of c.args.segmenter.now in
    record {
      puts = record {
        lent = Ok (Some p);
        next = subst (λ r. AfterNext s (state_of g.C.CellSource.cell_of c.next.follows.lender-at-none)
            (g.R.Source.unread c.args.reader.now) (g.R.Source.unread c.next.new.reader) (g.R.Source.has_ended c.args.reader.now) (g.R.Source.has_ended c.next.new.reader)
            (g.R.Source.reads_made c.args.reader.now) (g.R.Source.reads_made c.next.new.reader) r) was c.next.follows.holds-at-none.0;
        failed = c.next.ensures.failures ∙ ap (λ r. failures_with (g.R.Source.failure_count c.args.reader.now) (fault_in r)) was;
        puts = inl (
          refl,
          refl,
          λ ms cell_is profile_is of.
              c.in-Ok.ensures.adds.all
              ∙ ap (λ l. before ++ l) (segmented-is s ms p cell cell_is of),
        );
      };
      settled = search rules;
    }

pub returns-in-Err : goal.returns-in-Err
returns-in-Err g c = λ cell profile limit.
    let was = c.in_ok-passage.was ∙ ap Ok c.in-Some.is in
    let before = c.args.self.now.lines.items in
    let s = state_of g.C.CellSource.cell_of c.args.segmenter.now in
    let whole : c.len-before.result ≡ length before = search rules in
    record {
      puts = record {
        lent = Ok (Some c.in-Some.passage);
        next = subst (λ r. AfterNext s (state_of g.C.CellSource.cell_of c.next.follows.lender-at-none)
            (g.R.Source.unread c.args.reader.now) (g.R.Source.unread c.next.new.reader) (g.R.Source.has_ended c.args.reader.now) (g.R.Source.has_ended c.next.new.reader)
            (g.R.Source.reads_made c.args.reader.now) (g.R.Source.reads_made c.next.new.reader) r) was c.next.follows.holds-at-none.0;
        failed = c.next.ensures.failures ∙ ap (λ r. failures_with (g.R.Source.failure_count c.args.reader.now) (fault_in r)) was;
        puts = inr (c.take_back.ensures.memory, c.take_back.ensures.lines ∙ ap (λ n. take n c.push_segmented.new.out.items) whole ∙ c.push_segmented.ensures.adds.kept);
      };
      settled = search rules;
    }
