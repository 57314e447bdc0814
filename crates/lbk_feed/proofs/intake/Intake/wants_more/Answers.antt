use Rattle.std.proofs.Common.{◌≡◌, ◌+◌, ◌≤◌, length, true, false, Bool, not, arith}
use Rattle.lbk_feed.specs.Text.{longest_text}
use Rattle.lbk_feed.specs.Block.{items}
use Rattle.lbk_feed.proofs.Standing.{few_held, can_go_on}
use Rattle.lbk_feed.proofs.intake.Intake.wants_more.Goals as goal

pub returns-clause-yes : goal.returns-clause-yes
returns-clause-yes c is =
    let i = c.args.self.now in
    let none : i.ready_len ≡ 0 = omega arith in
    let within : i.given + length (items i.block) ≤ longest_text = omega (arith, i.judged.within) in
    let goes_on = can_go_on _ _ _ _ _ i.judged none (c.is_faulty.ensures.no c.if-is_faulty.false) within in
    record {
      none_ready = none;
      few = few_held _ _ goes_on;
      goes_on = goes_on;
      open_end = not_true i.is_ended is;
    }
  where
    not_true : (b : Bool) → not b ≡ true → b ≡ false
    not_true true is = cc
    not_true false is = cc
