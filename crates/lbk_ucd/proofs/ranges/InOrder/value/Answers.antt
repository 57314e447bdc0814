use Rattle.std.specs.Option.{option_map}
use Rattle.lbk_ucd.specs.Rows.{holds}
use Rattle.std.proofs.Common.{◌≤◌, get_or, arith, sym, ap}
use Rattle.std.proofs.lemmas.List.{get_or_default}
use Rattle.lbk_ucd.proofs.RowLemmas.{first_value_here, meets_within, none_shares, find_none}
use Rattle.lbk_ucd.proofs.ranges.InOrder.value.Goals as goal
use Rattle.lbk_ucd.proofs.ranges.InOrder.value.Goals.{else-at-rows-via-then-at-rows+else-rows-at, else-at-rows-via-else-at-rows}

pub returns-then-rows-at : goal.returns-then-rows-at
returns-then-rows-at g c =
    let rows = c.args.self.now.rows.now in
    let at = c.first_near-at.result in
    let here = c.index-rows-at-then-rows-at.result in
    let begins : (get_or rows at here).first ≤ c.args.code
    = rw (get_or_default rows at here c.index-rows-at.result (omega arith)) c.if-rows-at.true in
    let ends = c.first_near-at.ensures.after at here (omega arith) (omega arith) in
    sym (first_value_here rows c.args.code at here (omega arith) c.first_near-at.ensures.before
    (meets_within c.args.code c.args.code (get_or rows at here) begins ends))

pub returns-else-at-rows : goal.returns-else-at-rows
returns-else-at-rows g c =
    let rows = c.args.self.now.rows.now in
    let at = c.first_near-at.result in
    sym (ap (option_map (λ row. row.value)) (find_none (holds c.args.code) rows (none_shares rows c.args.code c.args.code at c.args.self.now.ordered c.first_near-at.ensures.before
    (elim c.else-at-rows.branch [
      | else-at-rows-via-then-at-rows+else-rows-at w ↦ λ d lt.
          rw (get_or_default rows at d w.index-rows-at.result lt) w.if-rows-at.false
      | else-at-rows-via-else-at-rows w ↦ λ d lt. absurd (omega arith)
    ]))))
