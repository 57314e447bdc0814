use Rattle.std.proofs.Common.{◌≡◌, ℕ, length, chars, Ok, Err, None, Some, refl, sym, ap, ◌∙◌, arith}
use Rattle.std.proofs.lemmas.Result.{err_from_is_err_and}
use Rattle.lbk_rules.specs.declared.Cell.{Cell}
use Rattle.lbk_values.specs.declared.profile.Profile.{Profile}
use Rattle.lbk_passage.specs.Marks.{marks, ended}
use Rattle.lbk_passage.specs.Segments.{segments_of}
use Rattle.lbk_passage.specs.Pieces.{pieces_of}
use Rattle.lbk_passage.specs.Next.{failures_with, fault_in}
use Rattle.lbk_passage.specs.declared.faults.PassageFault.TheVariants.{Memory}
use Rattle.lbk_passage.specs.declared.passage.Passage.{Passage}
use Rattle.lbk_passage.specs.declared.passage.PassageText.{PassageText}
use Rattle.lbk_passage.proofs.Giving.{After-fault, After-lent, After-none, Goes-fault, Goes-lent, Goes-none, never_memory}
use Rattle.lbk_passage.proofs.Settling.{ok_err}
use Rattle.lbk_passage.proofs.segmenter.Segmenter.next_text.Goals as goal

-- the passage of this text
abbrev passage : (ℕ → Cell) → Profile → PassageText → Passage
passage cell profile t = record {
  start = t.start;
  text = t.text;
  segments = record { ref_ptr = (0, 0); now = segments_of (ended t.end (marks profile cell (chars t.text.now))) };
  pieces = record { ref_ptr = (0, 0); now = pieces_of cell t.text.now };
  end = t.end;
}

pub returns-in_err-end : goal.returns-in_err-end
returns-in_err-end g c =
    let exit = err_from_is_err_and c.from_residual.result c.from_residual.ensures.1 in
    let filled = c.fill.ensures.fills c.args.self.now.profile in
    let was = c.in_err-end.was ∙ ap Err (sym exit.2) in
    let fills = rw was at filled in
    rw exit.1 (
      (
        refl,
        (λ _. tt),
        (record { lent = Err exit.0; after = After-fault fills; is = refl }, refl),
      ),
      record {
        after_borrow = tt;
        goes_on = Goes-fault filled c.fill.ensures.asks (c.fill.ensures.again c.args.self.now.profile) was;
        memory = λ is. never_memory fills (let same : exit.0 ≡ Memory = cc in same);
        failures = c.fill.ensures.asks.failures ∙ ap (λ r. failures_with (g.R.Source.failure_count c.args.reader.now) (fault_in r)) was;
      },
    )

pub returns-in_default : goal.returns-in_default
returns-in_default g c =
    let filled = c.fill.ensures.fills c.args.self.now.profile in
    let was = c.in_ok-end.was ∙ ap Ok c.in_default.is in
    let fills = rw was at filled in (
      (
        refl,
        (λ _. tt),
        (record { lent = Ok None; after = After-none fills; is = refl }, refl),
      ),
      record {
        after_borrow = tt;
        goes_on = Goes-none filled c.fill.ensures.asks (c.fill.ensures.again c.args.self.now.profile) was;
        memory = λ is. cc;
        failures = c.fill.ensures.asks.failures ∙ ap (λ r. failures_with (g.R.Source.failure_count c.args.reader.now) (fault_in r)) was;
      },
    )

pub returns : goal.returns
returns g c =
    let cell = g.C.CellSource.cell_of c.args.self.now.known.cells.now in
    let profile = c.args.self.now.profile in
    let filled = c.fill.ensures.fills c.args.self.now.profile in
    let was = c.in_ok-end.was ∙ ap Ok c.in-Some.is in
    let fills = rw was at filled in
    let text : PassageText = record { start = c.start.result; text = c.text.result; end = c.in-Some.end } in
    let pg = passage cell profile text in
    let bytes = c.text.ensures.text ∙ c.release.ensures.text in
    let given = After-lent fills c.release.new.self pg c.release.ensures (record {
      start = omega (
        arith,
        c.start.ensures,
        ap (λ f. f.given) c.release.ensures.feed,
        ap length c.release.ensures.text,
      );
      bytes = bytes;
      segments = ap (λ l. segments_of (ended c.in-Some.end (marks profile cell (chars l)))) bytes;
      pieces = ap (pieces_of cell) bytes;
      ends = refl;
    }) in (
      (
        refl,
        (λ _. tt),
        (record { lent = Ok (Some pg); after = given.0; is = refl }, refl),
      ),
      record {
        after_borrow = tt;
        goes_on = Goes-lent filled c.fill.ensures.asks (c.fill.ensures.again c.args.self.now.profile) text was;
        memory = λ is. ok_err (Ok (Some text)) (Some text) Memory refl is;
        failures = c.fill.ensures.asks.failures ∙ ap (λ r. failures_with (g.R.Source.failure_count c.args.reader.now) (fault_in r)) was;
      },
    )
