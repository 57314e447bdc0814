use Rattle.std.proofs.Common.{◌≡◌, ℕ, ◌-◌, [], length, chars, Bool, Ok, Err, None, Some, refl, sym, ap, ◌∙◌, arith}
use Rattle.std.specs.Prelude.{if◌then◌else◌}
use Rattle.std.proofs.lemmas.Result.{err_from_is_err_and}
use Rattle.lbk_rules.specs.declared.Cell.{Cell}
use Rattle.lbk_rules.specs.declared.Verdict.{Verdict}
use Rattle.lbk_values.specs.declared.profile.Profile.{Profile}
use Rattle.lbk_passage.specs.Marks.{marks, ended}
use Rattle.lbk_passage.specs.Segments.{segments_of}
use Rattle.lbk_passage.specs.Pieces.{pieces_of}
use Rattle.lbk_passage.specs.Next.{failures_with, fault_in}
use Rattle.lbk_passage.specs.State.{bytes_in, text_held}
use Rattle.lbk_passage.specs.declared.faults.PassageFault.TheVariants.{Memory}
use Rattle.lbk_passage.specs.declared.paragraph.Paragraph.{Paragraph}
use Rattle.lbk_passage.specs.declared.passage.Passage.{Passage}
use Rattle.lbk_passage.proofs.Giving.{After-fault, After-lent, After-none, Goes-fault, Goes-lent, Goes-none, never_memory}
use Rattle.lbk_passage.proofs.Settling.{ok_err}
use Rattle.lbk_passage.proofs.segmenter.Segmenter.pass.Goals as goal

-- the passage that is passed over
abbrev passed : (ℕ → Cell) → Profile → Paragraph → Verdict → Passage
passed cell profile p end = record {
  start = p.feed.given - length (bytes_in p);
  text = record { ref_ptr = (0, 0); now = bytes_in p };
  segments = record { ref_ptr = (0, 0); now = segments_of (ended end (marks profile cell (chars (bytes_in p)))) };
  pieces = record { ref_ptr = (0, 0); now = pieces_of cell (bytes_in p) };
  end = end;
}

pub returns-in_err-fill : goal.returns-in_err-fill
returns-in_err-fill g c =
    let exit = err_from_is_err_and c.from_residual.result c.from_residual.ensures.1 in
    let filled = c.fill.ensures.fills c.args.self.now.profile in
    let was = c.in_err-fill.was ∙ ap Err (sym exit.2) in
    let fills = rw was at filled in
    rw exit.1 (record {
      passes = record { lent = Err exit.0; after = After-fault fills; is = refl };
      goes_on = Goes-fault filled c.fill.ensures.asks (c.fill.ensures.again c.args.self.now.profile) was;
      memory = λ is. never_memory fills (let same : exit.0 ≡ Memory = cc in same);
      found = refl;
      failures = c.fill.ensures.asks.failures ∙ ap (λ r. failures_with (g.R.Source.failure_count c.args.reader.now) (fault_in r)) was;
    })

pub returns-in_default : goal.returns-in_default
returns-in_default g c =
    let filled = c.fill.ensures.fills c.args.self.now.profile in
    let was = c.in_ok-fill.was ∙ ap Ok c.in_default.is in
    let fills = rw was at filled in
    record {
      passes = record { lent = Ok None; after = After-none fills; is = refl };
      goes_on = Goes-none filled c.fill.ensures.asks (c.fill.ensures.again c.args.self.now.profile) was;
      memory = λ is. cc;
      found = refl;
      failures = c.fill.ensures.asks.failures ∙ ap (λ r. failures_with (g.R.Source.failure_count c.args.reader.now) (fault_in r)) was;
    }

pub returns : goal.returns
returns g c =
    let cell = g.C.CellSource.cell_of c.args.self.now.known.cells.now in
    let profile = c.args.self.now.profile in
    let q = c.release.new.self in
    let filled = c.fill.ensures.fills c.args.self.now.profile in
    let was = c.in_ok-fill.was ∙ ap Ok c.in-Some.is in
    let fills = rw was at filled in
    let pg = passed cell profile c.fill.new.self c.in-Some.field-0 in
    let lent = After-lent fills q pg c.release.ensures (record { start = refl; bytes = refl; segments = refl; pieces = refl; ends = refl }) in
    let after = lent.0 in
    let none : length (text_held q) ≡ 0 = ap (λ (b : Bool). length (if b then bytes_in q else [])) after.settled in record {
      passes = record {
        lent = Ok (Some pg);
        after = after;
        is = ap (λ (n : ℕ). Ok (Some n)) (omega (arith, c.given.ensures, after.start, after.answer.start, none));
      };
      goes_on = Goes-lent filled c.fill.ensures.asks (c.fill.ensures.again c.args.self.now.profile) c.given.result was;
      memory = λ is. ok_err (Ok (Some c.given.result)) (Some c.given.result) Memory refl is;
      found = refl;
      failures = c.fill.ensures.asks.failures ∙ ap (λ r. failures_with (g.R.Source.failure_count c.args.reader.now) (fault_in r)) was;
    }
