use Rattle.std.proofs.Common.{◌∙◌, inl, inr, sym, refl, arith}
use Rattle.lbk_cmd.proofs.Runs.{no_first, no_words, performs_told, some_words, stops_for_memory}
use Rattle.lbk_cmd.proofs.command.run_over_texts.Goals as goal

pub returns-then-is_empty-clause-runs : goal.returns-then-is_empty-clause-runs
returns-then-is_empty-clause-runs g c =
    let is_empty = sym c.is_empty.ensures ∙ c.if-is_empty.true in
    let none = no_words c.args.words.now is_empty in
    record {
      samples = λ same. c.show_samples.ensures;
      plain = λ task plain. absurd (no_first c.args.words.now _ _ is_empty plain.are);
      accepted = λ task some accepted asks. absurd (some none);
      others = λ some other. absurd (some none);
      unloaded = λ asks. refl;
      takes = record { refused = λ more. absurd (omega arith); loads = omega arith; files = refl };
    }

pub returns-in-Ok-clause-runs : goal.returns-in-Ok-clause-runs
returns-in-Ok-clause-runs g c =
    let some = some_words c.args.words.now (sym c.is_empty.ensures ∙ c.if-is_empty.false) in
    record {
      samples = λ none. absurd (some none);
      plain = λ task plain.
          performs_told g.T.File.Source _ _ _ _ task _ _ _ _ _ _ c.begin.ensures.contents c.begin.ensures.refused
          (c.in-Ok.ensures.plain task plain) c.perform_order.ensures.performs.runs;
      accepted = λ task named accepted asks.
          performs_told g.T.File.Source _ _ _ _ task _ _ _ _ _ _ c.begin.ensures.contents c.begin.ensures.refused
          (c.in-Ok.ensures.accepted task accepted asks) c.perform_order.ensures.performs.runs;
      others = λ named other. absurd (c.in-Ok.ensures.others other);
      unloaded = λ asks. absurd (elim asks [ inl none ↦ some none | inr other ↦ c.in-Ok.ensures.others other ]);
      takes = c.perform_order.ensures.takes;
    }

pub returns-in-Err-clause-runs : goal.returns-in-Err-clause-runs
returns-in-Err-clause-runs g c = record {
  samples = λ none. absurd (some_words c.args.words.now (sym c.is_empty.ensures ∙ c.if-is_empty.false) none);
  plain = λ task plain.
      inl ((c.in-Err.stop, stops_for_memory _ task _ _ (c.in-Err.ensures.plain task plain), c.from.ensures, refl), refl);
  accepted = λ task some accepted asks.
      inl (
        (
          c.in-Err.stop,
          stops_for_memory _ task _ _ (c.in-Err.ensures.accepted task accepted asks),
          c.from.ensures,
          refl,
        ),
        refl,
      );
  others = λ some other. (c.in-Err.stop, c.in-Err.ensures.others other, c.from.ensures, refl);
  unloaded = λ asks. refl;
  takes = record { refused = λ more. absurd (omega arith); loads = omega arith; files = refl };
}

pub returns-then-is_empty-clause-unopened : goal.returns-then-is_empty-clause-unopened
returns-then-is_empty-clause-unopened g c asks = refl

pub returns-in-Ok-clause-unopened : goal.returns-in-Ok-clause-unopened
returns-in-Ok-clause-unopened g c (inl none) =
    absurd (some_words c.args.words.now (sym c.is_empty.ensures ∙ c.if-is_empty.false) none)
returns-in-Ok-clause-unopened g c (inr other) = absurd (c.in-Ok.ensures.others other)

pub returns-in-Err-clause-unopened : goal.returns-in-Err-clause-unopened
returns-in-Err-clause-unopened g c asks = refl

pub returns-then-is_empty-clause-texts : goal.returns-then-is_empty-clause-texts
returns-then-is_empty-clause-texts g c = refl

pub returns-in-Ok-clause-texts : goal.returns-in-Ok-clause-texts
returns-in-Ok-clause-texts g c = c.perform_order.ensures.performs.contents ∙ c.begin.ensures.contents

pub returns-in-Err-clause-texts : goal.returns-in-Err-clause-texts
returns-in-Err-clause-texts g c = refl

pub begin-requires : goal.begin-requires
begin-requires g c κs = (refl, tt)

pub perform_order-requires : goal.perform_order-requires
perform_order-requires g c κs = (refl, tt)
