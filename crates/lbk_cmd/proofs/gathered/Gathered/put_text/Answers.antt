use Rattle.std.proofs.Common.{◌≡◌, Ok, refl, sym, ap, subst, ◌∙◌, length, take, rules}
use Rattle.lbk_passage.specs.Next.{failures_with, fault_in}
use Rattle.lbk_passage.specs.Shown.{state_of}
use Rattle.lbk_cmd.specs.Engines.{engine_by}
use Rattle.lbk_cmd.specs.Gathering.{Puts}
use Rattle.lbk_cmd.specs.declared.engine.Lines.TheVariants.{Text}
use Rattle.lbk_cmd.proofs.Putting.{fault_alike, puts_text, puts_text_refused, text_some}
use Rattle.lbk_cmd.proofs.gathered.Gathered.put_text.Goals as goal

pub push_text-requires : goal.push_text-requires
push_text-requires g c =
    let lends = c.next_text.follows.holds-at-none.0 in
    let text = text_some (engine_by g.C.CellSource.cell_of (Text c.args.lines) c.args.how.now) _ _ _ _ _ _ _ _
    lends.lent lends.after c.in-Some.passage (sym (c.in_ok-passage.was ∙ ap Ok c.in-Some.is) ∙ lends.is) in
    record { some = text.0; few = text.1 }

pub returns-in-Ok : goal.returns-in-Ok
returns-in-Ok g c =
    let lends = c.next_text.follows.holds-at-none.0 in
    let before = c.args.self.now.lines.items in
    let n = g.R.Source.failure_count c.args.reader.now in
    record {
      puts = record {
        lent = lends.lent;
        next = lends.after;
        failed = c.next_text.ensures.failures ∙ ap (λ r. failures_with n (fault_in r)) lends.is ∙ ap (failures_with n) (fault_alike lends.lent);
        puts = puts_text (engine_by g.C.CellSource.cell_of (Text c.args.lines) c.args.how.now) _ _ _ _ _ _ _ _ lends.lent lends.after c.in-Some.passage
            (sym (c.in_ok-passage.was ∙ ap Ok c.in-Some.is) ∙ lends.is) before _ _ refl c.in-Ok.ensures.text;
      };
      settled = search rules;
    }

pub returns-in-Err : goal.returns-in-Err
returns-in-Err g c =
    let lends = c.next_text.follows.holds-at-none.0 in
    let before = c.args.self.now.lines.items in
    let n = g.R.Source.failure_count c.args.reader.now in
    let e = engine_by g.C.CellSource.cell_of (Text c.args.lines) c.args.how.now in
    let s = state_of g.C.CellSource.cell_of c.args.segmenter.now in
    let whole : c.len-before.result ≡ length before = search rules in
    let back = c.take_back.ensures.lines ∙ ap (λ m. take m c.push_text.new.self.lines.items) whole ∙ c.push_text.ensures.kept in
    record {
      puts = record {
        lent = lends.lent;
        next = lends.after;
        failed = c.next_text.ensures.failures ∙ ap (λ r. failures_with n (fault_in r)) lends.is ∙ ap (failures_with n) (fault_alike lends.lent);
        puts = subst (λ l. Puts e s lends.lent before l c.take_back.new.self.at c.take_back.result) (sym back)
            (puts_text_refused e s before c.take_back.new.self.at c.take_back.result lends.lent c.in-Some.passage (sym (c.in_ok-passage.was ∙ ap Ok c.in-Some.is) ∙ lends.is) c.take_back.ensures.memory);
      };
      settled = search rules;
    }
