use Rattle.std.proofs.Common.{◌≡◌, ◌-◌, ◌++◌, get_or, length, sym, ap, ◌∙◌, arith}
use Rattle.std.specs.Char.Utf16.{is_high_surrogate}
use Rattle.lbk_units.specs.Reached.{on_from}
use Rattle.lbk_units.specs.Units.{pieces_of_utf16}
use Rattle.lbk_streams.proofs.FrontLemmas.{high-below, no-high, utf16-follows, utf16-follows-last}
use Rattle.lbk_streams.proofs.utf16.U16StreamUnit.fill_piece.Goals as goal

pub returns-then-is_high-clause-gives : goal.returns-then-is_high-clause-gives
returns-then-is_high-clause-gives g c = λ cell more flat.
    let piece = c.args.piece.now in
    let last = length piece - 1 in
    let high = high-below (get_or piece last 0) (sym c.is_high.ensures ∙ c.if-is_high.true) in
    c.fill_part.ensures.gives cell (on_from pieces_of_utf16 (piece ++ more)) flat
    (utf16-follows-last piece more last (λ k. omega (arith, (c.type_inv.piece k).fits)) (omega arith) high)

pub returns-clause-gives : goal.returns-clause-gives
returns-clause-gives g c = λ cell more flat.
    let piece = c.args.piece.now in
    let last = length piece - 1 in
    c.fill_part-2.ensures.gives cell (on_from pieces_of_utf16 (piece ++ more)) flat
    (utf16-follows piece more (λ k. omega (arith, (c.type_inv.piece k).fits))
    (λ k ends. no-high (get_or piece k 0) (get_or more 0 0)
    (ap (λ n. is_high_surrogate (get_or piece n 0)) (let e : k ≡ last = omega arith in e) ∙ sym c.is_high.ensures ∙ c.if-is_high.false)))
