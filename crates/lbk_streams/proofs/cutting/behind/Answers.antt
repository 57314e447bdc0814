use Rattle.std.proofs.Common.{◌≡◌, drop, length, sym, ap, ◌∙◌, length-take-le, arith}
use Rattle.std.proofs.Math.Seq.{drop-length}
use Rattle.lbk_streams.specs.Stands.{front_of, listed}
use Rattle.lbk_streams.proofs.cutting.behind.Goals as goal

pub returns-then-size-cut-clause-units : goal.returns-then-size-cut-clause-units
returns-then-size-cut-clause-units g c =
    let cut = c.args.cut in
    let front = front_of cut in
    let long : length front ≡ cut.size = length-take-le cut.size (listed cut.units) (omega (arith, c.requires.1)) in
    sym (ap (λ n. drop n front) (c.if-size-cut.true ∙ sym long) ∙ drop-length front)
