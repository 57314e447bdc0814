use Rattle.std.proofs.Common.{rules, ◌≡◌, length, take, sym, ap, ◌∙◌, refl}
use Rattle.std.specs.Str.Lossy.{utf8_valid_len}
use Rattle.lbk_feed.specs.Block.{items}
use Rattle.lbk_feed.specs.Judge.{in_reach}
use Rattle.lbk_feed.specs.Intake.{view_of}
use Rattle.lbk_feed.proofs.Drawing.{Draws-one, Draws-failed, Gives-none}
use Rattle.lbk_feed.proofs.Outcomes.{OnErr-always}
use Rattle.lbk_feed.proofs.intake.Intake.read_more.Goals as goal

pub returns-clause-refills : goal.returns-clause-refills
unfolding view_of
returns-clause-refills g c =
    let i = c.args.self.now in
    let gives = c.in_ok-n.ensures.fills in
    let still : c.in_ok-n.n ≡ 0 → c.judge-judgement.result.ready_len ≡ 0 =
    λ none. c.judge-judgement.ensures.ready_len ∙ ap (λ l. utf8_valid_len (in_reach i.given l)) (c.as_slice.ensures ∙ Gives-none _ _ _ _ _ gives none)
    ∙ sym i.judged.ready ∙ c.requires.wants.none_ready in
    record {
      ok = Draws-one (view_of i) _ _ _ _ _ c.in_ok-n.n gives refl refl refl
          (λ none. ap (λ n. length (take n (items c.read_from.new.self))) (still none))
          c.read_from.ensures.reads c.in_ok-n.ensures.gave c.requires.wants.goes_on;
      err = tt;
      ended = search rules;
      failures = c.in_ok-n.ensures.failures;
    }

pub returns-in_err-n-clause-refills : goal.returns-in_err-n-clause-refills
unfolding view_of
returns-in_err-n-clause-refills g c =
    let wants = c.requires.wants in
    record {
      ok = search rules;
      err = OnErr-always c.from_residual.result (Draws-failed (view_of c.args.self.now) _ _ _ _ _ c.in_err-n.ensures.fills.0 c.in_err-n.ensures.fills.1
          refl refl wants.open_end (ap (λ n. length (take n (items c.read_from.new.self))) wants.none_ready) c.read_from.ensures.reads c.in_err-n.ensures.gave wants.goes_on);
      ended = search rules;
      failures = search rules;
    }
