use Rattle.std.proofs.Common.{rules, ◌<◌, ◌+◌, ◌++◌, length, take, drop, ap, sym, ◌∙◌, arith, take-append-drop}
use Rattle.std.proofs.lemmas.List.{take_all, take_more}
use Rattle.std.proofs.lemmas.Result.{err_from_is_err_and}
use Rattle.lbk_notation.proofs.RunLemmas.{Uses-all, Uses-more, Uses-stopped}
use Rattle.lbk_notation.proofs.files.take_all.Goals as goal

pub returns-in_err-take-clause-writes : goal.returns-in_err-take-clause-writes
returns-in_err-take-clause-writes g c =
    let p = err_from_is_err_and c.from_residual.result c.from_residual.ensures.1 in
    let all = c.args.bytes.now in
    let i = c.loop-byte.byte-index in
    let within : i < length all = c.loop-byte-test.true in
    rw (p.1, p.2) (record {
      uses = Uses-stopped _ _ _ c.args.progress.now c.loop-byte.progress c.take.new.progress (take i all) (drop (i + 1) all) all _ _ _ _ _
          (sym (take-append-drop (i + 1) all) ∙ ap (λ l. l ++ drop (i + 1) all) (take_more all i _ within))
          c.loop-byte.invariant.uses c.in_err-take.ensures.writes.uses;
      faults = rw (sym c.loop-byte.invariant.none_failed) c.in_err-take.ensures.writes.faults;
    })

pub loop-byte-preserved : goal.loop-byte-preserved
loop-byte-preserved g c =
    let all = c.args.bytes.now in
    let i = c.loop-byte.byte-index in
    let within : i < length all = c.loop-byte-test.true in
    record {
      uses = Uses-more _ _ _ c.args.progress.now c.loop-byte.progress c.take.new.progress (take i all) (take (i + 1) all) _ _ _ _ c.in_ok-take.field-0
          (sym (take_more all i _ within)) c.loop-byte.invariant.uses c.in_ok-take.ensures.writes.uses;
      taken = omega (arith, c.in_ok-take.ensures.taken);
      none_failed = c.in_ok-take.ensures.writes.faults.writes.none_failed ∙ c.loop-byte.invariant.none_failed;
    }

pub returns-clause-writes : goal.returns-clause-writes
returns-clause-writes g c = record {
  uses = Uses-all _ _ _ c.args.progress.now c.loop-byte.progress (take c.loop-byte.byte-index c.args.bytes.now) c.args.bytes.now
      (g.W.Sink.written c.args.writer.now) (g.W.Sink.written c.loop-byte.writer) tt
      (take_all c.loop-byte.byte-index c.args.bytes.now c.loop-byte-test.false) c.loop-byte.invariant.uses;
  faults = rw c.loop-byte.invariant.none_failed (search rules);
}
