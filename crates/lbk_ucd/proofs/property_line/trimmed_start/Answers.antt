use Rattle.std.proofs.Common.{◌-◌, ◌≤◌, ◌∙◌, ap, arith, drop, length, sym}
use Rattle.std.proofs.Math.ListN.{drop_of_length-le}
use Rattle.std.proofs.lemmas.List.{length-drop, take_all}
use Rattle.std.proofs.lemmas.List.Sums.{prefix_len_is}
use Rattle.lbk_ucd.specs.PropertyLine.{is_space}
use Rattle.lbk_ucd.proofs.property_line.trimmed_start.Goals as goal

pub returns-then-not-is_space : goal.returns-then-not-is_space
returns-then-not-is_space c =
    let bytes = c.args.bytes.now in
    let place = c.loop-place.place in
    take_all (length bytes - place) (drop place bytes) (omega (arith, length-drop place bytes))
    ∙ ap (λ n. drop n bytes) (sym (prefix_len_is is_space bytes place 0 (omega arith) c.loop-place.invariant.1 (λ _. sym c.if-not-is_space.ensures)))

pub returns : goal.returns
returns c =
    let bytes = c.args.bytes.now in
    let place = c.loop-place.place in
    let all : length bytes ≤ place = omega arith in
    sym (drop_of_length-le bytes {i = place} all)
    ∙ ap (λ n. drop n bytes) (sym (prefix_len_is is_space bytes place 0 (omega arith) c.loop-place.invariant.1 (λ less. absurd (omega arith))))
