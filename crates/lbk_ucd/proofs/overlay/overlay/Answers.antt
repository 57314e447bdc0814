use Rattle.std.proofs.Common.{◌≡◌, ◌≤◌, ℕ, refl, ◌∙◌, sym, arith}
use Rattle.std.specs.Option.{option_or}
use Rattle.lbk_ucd.specs.Rows.{first_value}
use Rattle.lbk_ucd.proofs.OverlayLemmas.{all_done, done_none, done_some}
use Rattle.lbk_ucd.proofs.overlay.overlay.Goals as goal
use Rattle.lbk_ucd.proofs.overlay.overlay.Goals.{in-Some+in_ok-push, in_default}

pub loop-from-preserved : goal.loop-from-preserved
loop-from-preserved g c =
    let below = c.stretch_from-below in
    let above = c.stretch_from-above in
    record {
      low = c.next_from-low.ensures.within;
      under = λ k d l h. let e = c.next_from-low.ensures.before k d l h in let b = c.min-last.ensures in omega (arith, below.ensures.onward, above.ensures.onward);
      high = c.next_from-high.ensures.within;
      over = λ k d l h. let e = c.next_from-high.ensures.before k d l h in let b = c.min-last.ensures in omega (arith, below.ensures.onward, above.ensures.onward);
      most = omega (arith, most);
      done = elim c.match-or.branch [
        | in-Some+in_ok-push w ↦
            rw (w.rows-is, w.in_ok-push.ensures.items)
            (done_some c.args.under.now.rows.now c.args.over.now.rows.now c.loop-from.rows.items c.loop-from.from c.min-last.result c.loop-from.invariant.done rises w.in-Some.value
            most (λ code low high. value_here code low high ∙ (sym c.or.ensures ∙ w.in-Some.is)))
        | in_default w ↦
            rw w.rows-is
            (done_none c.args.under.now.rows.now c.args.over.now.rows.now c.loop-from.rows.items c.loop-from.from c.min-last.result c.loop-from.invariant.done rises
            (λ code low high. value_here code low high ∙ (sym c.or.ensures ∙ w.in_default.is)))
      ];
    }
  where
    rises : c.loop-from.from ≤ c.min-last.result
    rises = let b = c.min-last.ensures in omega (arith, c.stretch_from-below.ensures.onward, c.stretch_from-above.ensures.onward)

    most : c.min-last.result ≤ 0x10FFFF
    most = let b = c.min-last.ensures in omega (arith, c.stretch_from-below.ensures.most, c.stretch_from-above.ensures.most)

    value_here : (code : ℕ) → c.loop-from.from ≤ code → code ≤ c.min-last.result
        → option_or (first_value code c.args.over.now.rows.now) (first_value code c.args.under.now.rows.now) ≡ option_or c.stretch_from-above.result.value c.stretch_from-below.result.value
    value_here code low high =
        let b = c.min-last.ensures in
        rw (c.stretch_from-above.ensures.same code low (omega arith), c.stretch_from-below.ensures.same code low (omega arith)) refl

pub returns-clause-values : goal.returns-clause-values
returns-clause-values g c =
    all_done c.args.under.now.rows.now c.args.over.now.rows.now c.loop-from.rows.items c.loop-from.from c.args.under.now.ordered c.args.over.now.ordered c.loop-from.invariant.done (omega arith)
