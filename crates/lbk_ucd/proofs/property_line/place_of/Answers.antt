use Rattle.std.proofs.Common.{◌==◌, length, get_or, arith, sym}
use Rattle.std.proofs.lemmas.List.Sums.{position_or_len_is}
use Rattle.lbk_ucd.proofs.TakenLemmas.{is-false}
use Rattle.lbk_ucd.proofs.property_line.place_of.Goals as goal

pub returns-in-Some-clause-place : goal.returns-in-Some-clause-place
returns-in-Some-clause-place c =
    let found = c.in-Some.ensures in
    sym (position_or_len_is (λ b. b == c.args.byte) c.args.bytes.now c.in-Some.place 0 (omega (arith, found.0.high)) (λ k less. is-false (get_or c.args.bytes.now k 0 == c.args.byte) (found.0.before k (omega arith) less))
    (λ _. found.1))

pub returns-in-None-clause-place : goal.returns-in-None-clause-place
returns-in-None-clause-place c =
    let none = c.in-None.ensures in
    sym (position_or_len_is (λ b. b == c.args.byte) c.args.bytes.now (length c.args.bytes.now) 0 (omega arith) (λ k less. is-false (get_or c.args.bytes.now k 0 == c.args.byte) (none k (omega arith) less))
    (λ less. absurd (omega arith)))
