use Rattle.std.proofs.Common.{arith}
use Rattle.lbk_bytes.proofs.WideLemmas.{missing-zero, utf16-lone, utf16-pair}
use Rattle.lbk_bytes.proofs.utf16.front_surrogate.Goals.{then-high-gt56319-via-then-high-gt56319, then-high-gt56319-via-else-high-gt56319+then-units-lt2, then-low-lt56320-via-then-low-lt56320, then-low-lt56320-via-else-low-lt56320+then-low-gt57343}
use Rattle.lbk_bytes.proofs.utf16.front_surrogate.Goals as goal

pub returns-then-high-gt56319 : goal.returns-then-high-gt56319
returns-then-high-gt56319 c =
    utf16-lone c.args.units.now c.requires.0 c.requires.1 (λ pair. elim c.then-high-gt56319.branch as (λ _. ⊥) [
      | then-high-gt56319-via-then-high-gt56319 w ↦ omega (arith, pair.1, c.from-high.ensures, w.if-high-gt56319.true)
      | then-high-gt56319-via-else-high-gt56319+then-units-lt2 w ↦
          omega (arith, pair.2, missing-zero c.args.units.now w.if-units-lt2.true)
    ])

pub returns-then-low-lt56320 : goal.returns-then-low-lt56320
returns-then-low-lt56320 c =
    utf16-lone c.args.units.now c.requires.0 c.requires.1 (λ pair. elim c.then-low-lt56320.branch as (λ _. ⊥) [
      | then-low-lt56320-via-then-low-lt56320 w ↦ omega (arith, pair.2, c.from-low.ensures, w.if-low-lt56320.true)
      | then-low-lt56320-via-else-low-lt56320+then-low-gt57343 w ↦
          omega (arith, pair.3, c.from-low.ensures, w.if-low-gt57343.true)
    ])

pub returns-in-Some : goal.returns-in-Some
returns-in-Some c =
    let units = c.args.units.now in
    let is_high = c.from-high.ensures in
    let is_low = c.from-low.ensures in
    utf16-pair units c.in-Some.scalar (omega (arith, c.if-units-lt2.false))
    (c.requires.0, omega (arith, is_high, c.if-high-gt56319.false), omega (arith, is_low, c.if-low-lt56320.false), omega (arith, is_low, c.if-low-gt57343.false))
    (omega (arith, is_high, is_low, c.in-Some.ensures.value.1))
