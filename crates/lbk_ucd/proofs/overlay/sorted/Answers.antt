use Rattle.std.proofs.Common.{rules}
use Rattle.std.proofs.lemmas.List.Sorted.{All-permutation, IsNonDecreasingBy-from_sort_by_key}
use Rattle.lbk_ucd.specs.Ranges.{IsRange}
use Rattle.lbk_ucd.proofs.OrderLemmas.{apart_permuted, in_order, value_permuted}
use Rattle.lbk_ucd.proofs.overlay.sorted.Goals as goal

pub returns-clause-ordered : goal.returns-clause-ordered
returns-clause-ordered g c =
    let rows = c.args.rows.items in
    let moved = c.in_ok-sort_by_key.ensures.permutation in
    in_order _ (All-permutation IsRange rows _ moved c.requires.ranges) (apart_permuted rows _ moved c.requires.apart)
    (IsNonDecreasingBy-from_sort_by_key (λ row. row.first) _ c.in_ok-sort_by_key.ensures.sorted (λ a r q k. search rules))

pub returns-clause-values : goal.returns-clause-values
returns-clause-values g c = λ code. value_permuted c.args.rows.items _ code c.in_ok-sort_by_key.ensures.permutation c.requires.apart
