use Rattle.std.proofs.Common.{◌≡◌, false, None, Some, Ok, ◌&&◌, not, is_err, inl, inr, refl, sym, ap, subst, ◌∙◌}
use Rattle.lbk_feed.specs.declared.faults.FeedFault.TheVariants.{Read, Spent}
use Rattle.lbk_feed.specs.View.{fault_of}
use Rattle.lbk_feed.specs.View as feed
use Rattle.lbk_passage.specs.Next.{failures_with}
use Rattle.lbk_passage.proofs.Settling.{ok_err, one_value, feed_unspent, spent_together, failures_alike}
use Rattle.lbk_passage.specs.Lent.{IsLent}
use Rattle.lbk_passage.proofs.Texts.{IsLent-none, bytes-gathered, gathered-bytes}
use Rattle.lbk_passage.proofs.paragraph.Paragraph.settle.Goals as goal

pub invariant_of-self-clause-spent : goal.invariant_of-self-clause-spent
invariant_of-self-clause-spent g c =
    ap (λ b. c.settle-outcome.new.self.is_spent && not b) c.is_err-self.ensures.value
    ∙ spent_together c.args.self.now.feed.is_spent c.settle-outcome.new.self.is_spent c.settle-outcome.result
    (feed_unspent c.args.self.now.feed.is_spent c.args.self.now.is_spent c.args.self.now.spent c.requires.unspent)
    c.settle-outcome.ensures.call.steps.spent

pub invariant_of-self-clause-behind : goal.invariant_of-self-clause-behind
invariant_of-self-clause-behind g c =
    subst (λ n. IsLent n c.args.self.now.limit c.settle-outcome.new.self) (sym c.requires.gathered) (IsLent-none c.args.self.now.limit c.settle-outcome.new.self)

pub returns-in-Ok-clause-settles : goal.returns-in-Ok-clause-settles
returns-in-Ok-clause-settles g c = record {
  text = gathered-bytes _ _ _ c.requires.gathered ∙ sym (bytes-gathered c.args.self.now c.requires.gathered);
  limit = refl;
  same_held = refl;
  fault = None;
  unspent = λ e. cc;
  fault_is = refl;
  spent = c.is_err-self.ensures.value ∙ ap is_err c.in-Ok.is;
  steps = rw c.in-Ok.is at c.settle-outcome.ensures.call.steps;
  pays = c.settle-outcome.ensures.call.pays;
  agrees = c.settle-outcome.ensures.call.agrees;
  notices = c.settle-outcome.ensures.call.notices;
  unasked = λ h.
      (ap g.R.Source.reads_made (c.settle-outcome.ensures.asks.idle (inr (inl h))), λ e. cc);
  stands = rw c.in-Ok.is at c.settle-outcome.ensures.stands;
  ends = rw c.in-Ok.is at c.settle-outcome.ensures.ends;
}

pub returns-in-Err-clause-settles : goal.returns-in-Err-clause-settles
returns-in-Err-clause-settles g c = record {
  text = gathered-bytes _ _ _ c.requires.gathered ∙ sym (bytes-gathered c.args.self.now c.requires.gathered);
  limit = refl;
  same_held = refl;
  fault = Some c.in-Err.fault;
  unspent = λ e. let same : c.in-Err.fault ≡ Spent = cc in
      let spent = c.settle-outcome.ensures.asks.spent_only (ap fault_of c.in-Err.is ∙ ap Some same) in
      let fresh = feed_unspent c.args.self.now.feed.is_spent c.args.self.now.is_spent c.args.self.now.spent c.requires.unspent in cc;
  fault_is = ap Some c.from_feed.ensures;
  spent = c.is_err-self.ensures.value ∙ ap is_err c.in-Err.is;
  steps = rw c.in-Err.is at c.settle-outcome.ensures.call.steps;
  pays = c.settle-outcome.ensures.call.pays;
  agrees = c.settle-outcome.ensures.call.agrees;
  notices = c.settle-outcome.ensures.call.notices;
  unasked = λ h.
      (ap g.R.Source.reads_made (c.settle-outcome.ensures.asks.idle (inr (inl h))), λ e. let is : c.in-Err.fault ≡ Read = cc in c.settle-outcome.ensures.asks.read (ap fault_of c.in-Err.is ∙ ap Some is) (inr (inl h)));
  stands = tt;
  ends = tt;
}

pub returns-in-Ok-clause-reads_on : goal.returns-in-Ok-clause-reads_on
returns-in-Ok-clause-reads_on g c = record {
  failures = c.settle-outcome.ensures.asks.failures ∙ ap (λ r. feed.failures_with (g.R.Source.failure_count c.args.reader.now) (fault_of r)) c.in-Ok.is;
  quiet = λ h. c.settle-outcome.ensures.asks.idle (inr (inl h));
  again = λ h none.
      ap Ok (one_value c.settle-outcome.result c.in-Ok.stands false c.in-Ok.is (c.settle-outcome.ensures.again h none
      (feed_unspent c.args.self.now.feed.is_spent c.args.self.now.is_spent c.args.self.now.spent c.requires.unspent)));
}

pub returns-in-Err-clause-reads_on : goal.returns-in-Err-clause-reads_on
returns-in-Err-clause-reads_on g c = record {
  failures = c.settle-outcome.ensures.asks.failures ∙ ap (λ r. feed.failures_with (g.R.Source.failure_count c.args.reader.now) (fault_of r)) c.in-Err.is
      ∙ failures_alike (g.R.Source.failure_count c.args.reader.now) c.in-Err.fault
      ∙ ap (λ e. failures_with (g.R.Source.failure_count c.args.reader.now) (Some e)) (sym c.from_feed.ensures);
  quiet = λ h. c.settle-outcome.ensures.asks.idle (inr (inl h));
  again = λ h none.
      absurd (ok_err c.settle-outcome.result false c.in-Err.fault (c.settle-outcome.ensures.again h none
      (feed_unspent c.args.self.now.feed.is_spent c.args.self.now.is_spent c.args.self.now.spent c.requires.unspent)) c.in-Err.is);
}
