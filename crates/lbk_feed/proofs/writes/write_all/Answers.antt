use Rattle.std.proofs.Common.{◌≤◌, ◌-◌, arith, refl, ◌∙◌, length, length-drop, length-take}
use Rattle.std.proofs.KnownBytes.{Appends-nil}
use Rattle.lbk_feed.specs.Writes.HasWritten.{none, more}
use Rattle.lbk_feed.proofs.Written.{appended_more, some_left}
use Rattle.lbk_feed.proofs.writes.write_all.Goals as goal

pub loop-done-preserved : goal.loop-done-preserved
loop-done-preserved g c =
    let within : c.in_ok-done.field-0 ≤ length c.args.bytes.now - c.loop-done.done = omega (arith, simp (length-take, length-drop) at c.in_ok-done.ensures.within) in
    let some = some_left c.args.bytes.now c.loop-done.done c.loop-done-test.true in
    record {
      within = omega arith;
      written = appended_more _ _ _ c.args.bytes.now c.loop-done.done c.in_ok-done.field-0 within c.loop-done.invariant.written c.in_ok-done.ensures.bytes;
      by_writes = more c.loop-done.writer c.write.new.self _ c.write.result c.loop-done.invariant.by_writes
          some (c.write.ensures.some some) c.write.ensures.bytes c.write.ensures.failures;
      nothing = λ empty. absurd (omega (arith, c.loop-done-test.true));
      none_failed = c.in_ok-done.ensures.failures ∙ c.loop-done.invariant.none_failed;
    }

pub loop-done-init : goal.loop-done-init
loop-done-init g c = record {
  within = omega arith;
  written = Appends-nil (g.W.Sink.written c.args.writer.now);
  by_writes = none;
  nothing = λ _. refl;
  none_failed = refl;
}

pub returns-in_err-done-clause-by_writes : goal.returns-in_err-done-clause-by_writes
returns-in_err-done-clause-by_writes g c =
    let some = some_left c.args.bytes.now c.loop-done.done c.loop-done-test.true in
    more c.loop-done.writer c.write.new.self _ c.write.result c.loop-done.invariant.by_writes
    some (c.write.ensures.some some) c.write.ensures.bytes c.write.ensures.failures
