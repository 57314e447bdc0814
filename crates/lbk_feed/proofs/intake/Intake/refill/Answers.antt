use Rattle.std.proofs.Common.{◌≡◌, ◌<◌, ◌||◌, true, false, length, Result, Ok, Err, refl, sym, ap, ◌∙◌, ⊎_elim, arith}
use Rattle.lbk_feed.specs.declared.intake.Intake.{Intake}
use Rattle.lbk_feed.specs.declared.traits.Failed.{Failed}
use Rattle.lbk_feed.specs.declared.traits.Source.{Ghosts as SourceMembers}
use Rattle.lbk_feed.specs.Block.{items}
use Rattle.lbk_feed.specs.Devices.{count_up}
use Rattle.lbk_feed.specs.Intake.{view_of, Refills}
use Rattle.lbk_feed.proofs.Drawing.{Draws-nil, Draws-more, Draws-fails}
use Rattle.lbk_feed.proofs.Outcomes.{ended-open}
use Rattle.std.proofs.lemmas.Result.{err_from_is_err_and}
use Rattle.lbk_feed.proofs.intake.Intake.refill.Goals as goal

-- reads, and then others
Refills-more : {R : Type 0} (source : SourceMembers R) (a b c : Intake) (ra rb rc : R) (result : Result (Unit {0}) Failed) → b.is_ended ≡ false
    → Refills source a b ra rb (Ok (tt {0})) → Refills source b c rb rc result → Refills source a c ra rc result
unfolding view_of
Refills-more source a b c ra rb rc (Ok x) open_end first second = record {
  ok = Draws-more (view_of a) (view_of b) (view_of c) _ _ _ _ _ _ open_end first.ok second.ok;
  err = tt;
  ended = second.ended ∙ ap (λ e. e || c.is_ended) (ended-open _ _ _ first.ended open_end);
  failures = second.failures ∙ first.failures;
}
Refills-more source a b c ra rb rc (Err e) open_end first second = record {
  ok = tt;
  err = Draws-fails (view_of a) (view_of b) (view_of c) _ _ _ _ _ _ open_end first.ok second.err;
  ended = second.ended ∙ ap (λ e. e || c.is_ended) (ended-open _ _ _ first.ended open_end);
  failures = second.failures ∙ ap count_up first.failures;
}

pub loop-init : goal.loop-init
unfolding view_of
loop-init g c = record {
  due = c.requires;
  refills = record {
    ok = Draws-nil (view_of c.args.self.now) _ _ c.requires.wants.open_end;
    err = tt;
    ended = sym (ended-open _ (g.R.Source.has_ended c.args.reader.now) c.args.self.now.is_ended refl c.requires.wants.open_end);
    failures = refl;
  };
  reads = omega arith;
  each_gave = omega arith;
}

pub returns-in_err-read_more-clause-refills : goal.returns-in_err-read_more-clause-refills
returns-in_err-read_more-clause-refills g c =
    let exit = err_from_is_err_and c.from_residual.result c.from_residual.ensures.1 in
    rw (exit.1, exit.2)
    (Refills-more g.R.Source c.args.self.now c.loop.self c.read_more.new.self _ _ _ _ c.loop.invariant.due.wants.open_end c.loop.invariant.refills c.in_err-read_more.ensures.refills)

pub returns-then-not-wants_more-clause-refills : goal.returns-then-not-wants_more-clause-refills
returns-then-not-wants_more-clause-refills g c =
    Refills-more g.R.Source c.args.self.now c.loop.self c.read_more.new.self _ _ _ _ c.loop.invariant.due.wants.open_end c.loop.invariant.refills c.in_ok-read_more.ensures.refills

pub loop-preserved : goal.loop-preserved
unfolding view_of
loop-preserved g c =
    let wants = c.wants_more.ensures.yes c.if-not-wants_more.false in
    record {
      due = record { wants = wants; unspent = c.in_ok-read_more.ensures.refills.ok.spent ∙ c.loop.invariant.due.unspent };
      refills = Refills-more g.R.Source c.args.self.now c.loop.self c.read_more.new.self _ _ _ _ c.loop.invariant.due.wants.open_end c.loop.invariant.refills c.in_ok-read_more.ensures.refills;
      reads = omega (arith, c.loop.invariant.reads, c.read_more.ensures.reads);
      each_gave = ⊎_elim
          (λ (ended : c.read_more.new.self.is_ended ≡ true). absurd (let both = sym ended ∙ wants.open_end in cc))
          (λ (more : length (items c.loop.self.block) < length (items c.read_more.new.self.block)). omega (arith, c.loop.invariant.each_gave))
          c.in_ok-read_more.ensures.grows;
    }
