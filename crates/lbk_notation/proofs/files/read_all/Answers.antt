use Rattle.std.proofs.Common.{◌≡◌, ◌<◌, ◌≤◌, refl, sym, ◌∙◌, length, take, drop, arith}
use Rattle.std.proofs.lemmas.List.{length-take-le}
use Rattle.std.proofs.lemmas.Result.{err_from_is_err_and}
use Rattle.lbk_notation.proofs.RunLemmas.{Ran-failed, Ran-long, Ran-stopped, Reads-more, Reads-start, front-split, length-past}
use Rattle.lbk_notation.proofs.files.read_all.Goals as goal

pub loop-count-init : goal.loop-count-init
loop-count-init g c = record {
  reads = Reads-start _ _ _ c.new-progress.result _ _ (c.new-progress.ensures.stands _ _ _);
  few = omega arith;
  none_failed_to_read = refl;
  none_failed_to_write = refl;
}

pub returns-in_err-take_all-clause-run : goal.returns-in_err-take_all-clause-run
returns-in_err-take_all-clause-run g c =
    let p = err_from_is_err_and c.from_residual.result c.from_residual.ensures.1 in
    let buf = c.read.new.buf in
    let count = c.in-Ok.count in
    let counted = c.min-counted.result in
    let within : count ≤ length buf = omega (arith, c.in-Ok.ensures.within, c.read.auto.buf) in
    let below : counted ≤ count = omega (arith, c.min-counted.ensures) in
    let size : length (take counted buf) ≡ counted = length-take-le counted buf (omega arith) in
    rw (p.1, p.2)
    (Ran-stopped _ _ _ c.loop-count.progress c.take_all.new.progress (take count buf) (take counted buf) (drop counted (take count buf))
    _ _ _ _ _ _ c.in_err-take_all.field-0.0 _ _ c.loop-count.invariant.reads c.in-Ok.ensures.bytes.0 c.in_err-take_all.ensures.writes.uses
    (front-split counted count buf below) (omega (arith, c.min-counted.ensures, c.room.ensures)) c.in_err-take_all.ensures.writes.faults.only
    (length-take-le count buf within ∙ sym c.in-Ok.ensures.gave) (omega (arith, c.in-Ok.ensures.reads, c.loop-count.invariant.few)))

pub returns-then-counted-count-clause-run : goal.returns-then-counted-count-clause-run
returns-then-counted-count-clause-run g c =
    let buf = c.read.new.buf in
    let count = c.in-Ok.count in
    let counted = c.min-counted.result in
    let within : count ≤ length buf = omega (arith, c.in-Ok.ensures.within, c.read.auto.buf) in
    let past : counted < count = c.if-counted-count.true in
    let size : length (take counted buf) ≡ counted = length-take-le counted buf (omega arith) in
    Ran-long _ _ _ c.loop-count.progress c.take_all.new.progress (take count buf) (take counted buf) (drop counted (take count buf))
    _ _ _ _ _ _ c.in_ok-take_all.field-0 _ _ c.loop-count.invariant.reads c.in-Ok.ensures.bytes.0 c.in_ok-take_all.ensures.writes.uses
    (front-split counted count buf (omega arith)) (length-past counted count buf past within)
    (omega (arith, c.min-counted.ensures, c.room.ensures)) (length-take-le count buf within ∙ sym c.in-Ok.ensures.gave)
    (omega (arith, c.in-Ok.ensures.reads, c.loop-count.invariant.few))

pub loop-count-preserved : goal.loop-count-preserved
loop-count-preserved g c =
    let buf = c.read.new.buf in
    let count = c.in-Ok.count in
    let counted = c.min-counted.result in
    let within : count ≤ length buf = omega (arith, c.in-Ok.ensures.within, c.read.auto.buf) in
    let same : counted ≡ count = omega (arith, c.min-counted.ensures, c.if-counted-count.false) in
    let size : length (take counted buf) ≡ counted = length-take-le counted buf (omega arith) in
    let some : 0 < count = omega (arith, c.if-count-eq0.false) in
    record {
      reads = Reads-more _ _ _ c.loop-count.progress c.take_all.new.progress (take counted buf) _ _ _ _ _ _ c.in_ok-take_all.field-0
          c.loop-count.invariant.reads (rw same c.in-Ok.ensures.bytes.0) c.in_ok-take_all.ensures.writes.uses;
      few = omega (arith, c.in-Ok.ensures.reads, c.in_ok-take_all.ensures.taken, c.loop-count.invariant.few);
      none_failed_to_read = c.in-Ok.ensures.failures ∙ c.loop-count.invariant.none_failed_to_read;
      none_failed_to_write = c.in_ok-take_all.ensures.writes.faults.writes.none_failed ∙ c.loop-count.invariant.none_failed_to_write;
    }

pub returns-in_default-clause-run : goal.returns-in_default-clause-run
returns-in_default-clause-run g c =
    Ran-failed _ _ _ c.loop-count.progress _ _ _ _ _ _ _ c.loop-count.invariant.reads c.in_default.ensures.bytes c.loop-count.progress.within
    c.in_default.ensures.gave (omega (arith, c.in_default.ensures.reads, c.loop-count.invariant.few))
