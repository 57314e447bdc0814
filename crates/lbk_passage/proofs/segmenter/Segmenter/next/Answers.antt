use Rattle.std.proofs.Common.{◌≡◌, true, ℕ, ◌*◌, ◌<◌, not, List, length, chars, Ok, Err, vec_capacity, inl, inr, refl, sym, ap, subst, ◌∙◌, arith}
use Rattle.std.proofs.Math.Nat.{le-max_left}
use Rattle.std.proofs.lemmas.Result.{err_from_is_err_and}
use Rattle.lbk_passage.specs.Marks.{marks, ended}
use Rattle.lbk_passage.specs.Segments.{segments_of}
use Rattle.lbk_passage.specs.Pieces.{pieces_of}
use Rattle.lbk_passage.specs.declared.faults.PassageFault.TheVariants.{Memory}
use Rattle.lbk_passage.specs.Next.{failures_with, fault_in}
use Rattle.lbk_passage.specs.Front.{items_of}
use Rattle.lbk_passage.specs.Shown.{found_by}
use Rattle.lbk_passage.specs.State.{bytes_in, state_with}
use Rattle.lbk_passage.specs.Gathering.{IsFirst}
use Rattle.lbk_passage.specs.Stays.{IsWhole}
use Rattle.lbk_passage.proofs.Giving.{After-fault, After-lent, After-memory, After-none, Goes-fault, Goes-lent, Goes-none, Goes-some, Keeps-same, lacks_room, most_of, never_memory, no_fault, on_err, on_ok}
use Rattle.lbk_passage.specs.Ahead.{HasTold, IsAhead, KeepsTold, segments_in}
use Rattle.lbk_passage.proofs.AheadLemmas.{ahead-kept}
use Rattle.lbk_passage.proofs.RoomLemmas.{items-many}
use Rattle.lbk_passage.proofs.segmenter.Segmenter.next.Given.{Over}
use Rattle.lbk_passage.proofs.segmenter.Segmenter.next.Goals as goal
use Rattle.lbk_passage.proofs.segmenter.Segmenter.next.Goals.{After-fill}

-- what a segmenter keeps once its paragraph is filled
filled : (g : Over) (c : After-fill g)
    → record {
      told : KeepsTold c.args.self.now.profile (g.C.CellSource.cell_of c.args.self.now.known.cells.now) c.fill.new.self c.tell-told.new.self;
      found : IsAhead c.args.self.now.profile (g.C.CellSource.cell_of c.args.self.now.known.cells.now) c.fill.new.self.feed.ready c.tell-told.new.self;
      whole : c.fill.new.self.is_held ≡ true → IsWhole (g.C.CellSource.cell_of c.args.self.now.known.cells.now) c.fill.new.self;
    }
filled g c =
    let s = c.args.self.now in
    let kept = ahead-kept s.profile (g.C.CellSource.cell_of s.known.cells.now) s.paragraph c.fill.new.self s.ahead c.tell-told.new.self c.tell-told.result
    c.tell-told.ensures c.fill.ensures.told c.fill.ensures.in_hand s.told s.found in
    record { told = kept.0; found = kept.1; whole = c.fill.ensures.whole }

pub returns-in_err-end : goal.returns-in_err-end
returns-in_err-end g c =
    let exit = err_from_is_err_and c.from_residual.result c.from_residual.ensures.1 in
    let filled = c.fill.ensures.fills c.args.self.now.profile in
    let was = c.in_err-end.was ∙ ap Err (sym exit.2) in
    let fills = rw was at filled in
    rw exit.1 (
      (
        refl,
        (λ _. tt),
        (After-fault fills, Keeps-same _ _ _ (λ is. never_memory fills (let same : exit.0 ≡ Memory = cc in same))),
      ),
      record {
        after_borrow = tt;
        lent = tt;
        goes_on = Goes-fault filled c.fill.ensures.asks (c.fill.ensures.again c.args.self.now.profile) was;
        failures = c.fill.ensures.asks.failures ∙ ap (λ r. failures_with (g.R.Source.failure_count c.args.reader.now) (fault_in r)) was;
      },
    )

pub returns-in_default : goal.returns-in_default
returns-in_default g c =
    let filled = c.fill.ensures.fills c.args.self.now.profile in
    let was = c.in_ok-end.was ∙ ap Ok c.in_default.is in
    let fills = rw was at filled in (
      (
        refl,
        (λ _. tt),
        (After-none fills, Keeps-same _ _ _ (λ is. cc)),
      ),
      record {
        after_borrow = tt;
        lent = tt;
        goes_on = Goes-none filled c.fill.ensures.asks (c.fill.ensures.again c.args.self.now.profile) was;
        failures = c.fill.ensures.asks.failures ∙ ap (λ r. failures_with (g.R.Source.failure_count c.args.reader.now) (fault_in r)) was;
      },
    )

pub returns-then-is_err : goal.returns-then-is_err
returns-then-is_err g c =
    let filled = c.fill.ensures.fills c.args.self.now.profile in
    let was = c.in_ok-end.was ∙ ap Ok c.in-Some.is in
    let fills = rw was at filled in
    let first : IsFirst (state_with (g.C.CellSource.cell_of c.args.self.now.known.cells.now) c.args.self.now.profile c.fill.new.self) c.fill.new.self c.in-Some.end = fills.answer in
    let many = λ (l : List ℕ). length (segments_of (ended c.in-Some.end (marks c.args.self.now.profile (g.C.CellSource.cell_of c.args.self.now.known.cells.now) (chars l)))) in
    let lines : vec_capacity c.args.self.now.segments.items < many (bytes_in c.fill.new.self) =
    subst (λ l. vec_capacity c.args.self.now.segments.items < many l) c.text-text.ensures.text
    (on_err (vec_capacity c.args.self.now.segments.items < many c.text-text.result.now) c.cut_lines.result
    (c.is_err.ensures.negation ∙ ap not c.if-is_err.true) (c.cut_lines.ensures.full first.broken)) in (
      (
        refl,
        (λ _. tt),
        (
          After-memory fills,
          record {
            for_segments = omega (arith, c.cut_lines.ensures.room);
            for_pieces = omega arith;
            few_segments = most_of (vec_capacity c.cut_lines.new.segments.items) (vec_capacity c.args.self.now.segments.items) (sym (items-many c.cut_lines.new.segments)) (c.cut_lines.ensures.most first.broken);
            few_pieces = le-max_left (vec_capacity c.args.self.now.pieces.items) (2 * length (items_of c.args.self.now.pieces));
            memory = λ is. lacks_room fills (found_by c.args.self.now) (inl lines);
          },
        ),
      ),
      record {
        after_borrow = tt;
        lent = tt;
        goes_on = Goes-some filled c.fill.ensures.asks (c.fill.ensures.again c.args.self.now.profile) was (Err Memory) (λ is. cc);
        failures = c.fill.ensures.asks.failures ∙ ap (λ r. failures_with (g.R.Source.failure_count c.args.reader.now) (fault_in r)) was;
      },
    )

pub returns-then-is_err-2 : goal.returns-then-is_err-2
returns-then-is_err-2 g c =
    let filled = c.fill.ensures.fills c.args.self.now.profile in
    let was = c.in_ok-end.was ∙ ap Ok c.in-Some.is in
    let fills = rw was at filled in
    let first : IsFirst (state_with (g.C.CellSource.cell_of c.args.self.now.known.cells.now) c.args.self.now.profile c.fill.new.self) c.fill.new.self c.in-Some.end = fills.answer in
    let many = λ (l : List ℕ). length (pieces_of (g.C.CellSource.cell_of c.args.self.now.known.cells.now) l) in
    let words : vec_capacity c.args.self.now.pieces.items < many (bytes_in c.fill.new.self) =
    subst (λ l. vec_capacity c.args.self.now.pieces.items < many l) c.text-text.ensures.text
    (on_err (vec_capacity c.args.self.now.pieces.items < many c.text-text.result.now) c.cut_words.result
    (c.is_err-2.ensures.negation ∙ ap not c.if-is_err-2.true) c.cut_words.ensures.full) in (
      (
        refl,
        (λ _. tt),
        (
          After-memory fills,
          record {
            for_segments = omega (arith, c.cut_lines.ensures.room);
            for_pieces = omega (arith, c.cut_words.ensures.room);
            few_segments = most_of (vec_capacity c.cut_lines.new.segments.items) (vec_capacity c.args.self.now.segments.items) (sym (items-many c.cut_lines.new.segments)) (c.cut_lines.ensures.most first.broken);
            few_pieces = most_of (vec_capacity c.cut_words.new.pieces.items) (vec_capacity c.args.self.now.pieces.items) (sym (items-many c.cut_words.new.pieces)) c.cut_words.ensures.most;
            memory = λ is. lacks_room fills (found_by c.args.self.now) (inr words);
          },
        ),
      ),
      record {
        after_borrow = tt;
        lent = tt;
        goes_on = Goes-some filled c.fill.ensures.asks (c.fill.ensures.again c.args.self.now.profile) was (Err Memory) (λ is. cc);
        failures = c.fill.ensures.asks.failures ∙ ap (λ r. failures_with (g.R.Source.failure_count c.args.reader.now) (fault_in r)) was;
      },
    )

pub returns : goal.returns
returns g c =
    let cell = g.C.CellSource.cell_of c.args.self.now.known.cells.now in
    let profile = c.args.self.now.profile in
    let filled = c.fill.ensures.fills c.args.self.now.profile in
    let was = c.in_ok-end.was ∙ ap Ok c.in-Some.is in
    let fills = rw was at filled in
    let first : IsFirst (state_with cell profile c.fill.new.self) c.fill.new.self c.in-Some.end = fills.answer in
    let lines : segments_in c.tell-told.new.self c.cut_lines.new.segments ≡ segments_of (ended c.in-Some.end (marks profile cell (chars c.text-text.result.now))) =
    on_ok (segments_in c.tell-told.new.self c.cut_lines.new.segments ≡ segments_of (ended c.in-Some.end (marks profile cell (chars c.text-text.result.now))))
    c.cut_lines.result (c.is_err.ensures.negation ∙ ap not c.if-is_err.false) c.cut_lines.ensures.cut in
    let words : items_of c.cut_words.new.pieces ≡ pieces_of cell c.text-text.result.now =
    on_ok (items_of c.cut_words.new.pieces ≡ pieces_of cell c.text-text.result.now)
    c.cut_words.result (c.is_err-2.ensures.negation ∙ ap not c.if-is_err-2.false) c.cut_words.ensures.cut in
    let given = After-lent fills c.release.new.self c.lend.result c.release.ensures (record {
      start = omega (
        arith,
        c.lend.ensures.start,
        ap (λ f. f.given) c.release.ensures.feed,
        ap length c.release.ensures.text,
      );
      bytes = c.lend.ensures.text ∙ c.release.ensures.text;
      segments = c.lend.ensures.segments ∙ lines ∙ ap (λ l. segments_of (ended c.in-Some.end (marks profile cell (chars l)))) c.text-text.ensures.text;
      pieces = c.lend.ensures.pieces ∙ words ∙ ap (pieces_of cell) c.text-text.ensures.text;
      ends = c.lend.ensures.end;
    }) in (
      (
        refl,
        (λ _. tt),
        (
          given.0,
          record {
            for_segments = omega (arith, c.cut_lines.ensures.room);
            for_pieces = omega (arith, c.cut_words.ensures.room);
            few_segments = most_of (vec_capacity c.cut_lines.new.segments.items) (vec_capacity c.args.self.now.segments.items) (sym (items-many c.cut_lines.new.segments)) (c.cut_lines.ensures.most first.broken);
            few_pieces = most_of (vec_capacity c.cut_words.new.pieces.items) (vec_capacity c.args.self.now.pieces.items) (sym (items-many c.cut_words.new.pieces)) c.cut_words.ensures.most;
            memory = λ is. no_fault _ is;
          },
        ),
      ),
      record {
        after_borrow = tt;
        lent = given.1;
        goes_on = Goes-lent filled c.fill.ensures.asks (c.fill.ensures.again c.args.self.now.profile) c.lend.result was;
        failures = c.fill.ensures.asks.failures ∙ ap (λ r. failures_with (g.R.Source.failure_count c.args.reader.now) (fault_in r)) was;
      },
    )

pub cut_lines-requires-clause-told : goal.cut_lines-requires-clause-told
cut_lines-requires-clause-told g c = λ some.
    let s = c.args.self.now in
    let cell = g.C.CellSource.cell_of s.known.cells.now in
    let kept = (filled g (goal.at.cut_lines-requires-clause-told g c).After-fill).told in
    subst (λ l. HasTold s.profile cell l c.in-Some.end c.tell-told.new.self) (sym c.text-text.ensures.text)
    (kept c.in_ok-end.ensures.held some c.in-Some.end (sym c.in_ok-end.ensures.end ∙ c.in-Some.is))

pub invariant_of-self-then-is_err : goal.invariant_of-self-then-is_err
invariant_of-self-then-is_err g c =
    let kept = filled g (goal.at.invariant_of-self-then-is_err g c).After-fill in
    record { told = kept.told; found = kept.found; whole = kept.whole; met = c.args.self.now.met }

pub invariant_of-self-then-is_err-2 : goal.invariant_of-self-then-is_err-2
invariant_of-self-then-is_err-2 g c =
    let kept = filled g (goal.at.invariant_of-self-then-is_err-2 g c).After-fill in
    record { told = kept.told; found = kept.found; whole = kept.whole; met = c.cut_words.ensures.met }

pub invariant_of-self-2 : goal.invariant_of-self-2
invariant_of-self-2 g c =
    let s = c.args.self.now in
    let cell = g.C.CellSource.cell_of s.known.cells.now in
    record {
      told = λ held. absurd (let no = sym c.release.ensures.held ∙ held in cc);
      found = subst (λ f. IsAhead s.profile cell f.ready c.tell-told.new.self) (sym c.release.ensures.feed)
          (filled g (goal.at.invariant_of-self-2 g c).After-fill).found;
      whole = λ held. absurd (let no = sym c.release.ensures.held ∙ held in cc);
      met = c.cut_words.ensures.met;
    }
