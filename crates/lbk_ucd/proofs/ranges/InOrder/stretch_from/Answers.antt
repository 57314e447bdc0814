use Rattle.std.proofs.Common.{◌∙◌, Some, arith, sym, ap, rules}
use Rattle.std.proofs.lemmas.List.{get_or_default}
use Rattle.lbk_ucd.proofs.OverlayLemmas.{no_value, stretch}
use Rattle.lbk_ucd.proofs.RowLemmas.{first_value_here, meets_within, none_shares}
use Rattle.lbk_ucd.proofs.ranges.InOrder.stretch_from.Goals as goal

pub returns-then-at-rows : goal.returns-then-at-rows
returns-then-at-rows g c =
    let rows = c.args.self.now.rows.now in
    stretch (λ within. omega arith) (search rules) (λ k low high.
    no_value rows k (none_shares rows k k c.args.at c.args.self.now.ordered
    (λ i d l h. let e = c.requires.before i d l h in omega arith) (λ d lt. absurd (omega arith))))

pub returns-then-code-row : goal.returns-then-code-row
returns-then-code-row g c =
    let rows = c.args.self.now.rows.now in
    let row = c.index-rows-at.result in
    stretch (λ _. omega arith) (search rules) (λ k low high.
    no_value rows k (none_shares rows k k c.args.at c.args.self.now.ordered
    (λ i d l h. let e = c.requires.before i d l h in omega arith)
    (λ d lt. rw (get_or_default rows c.args.at d row lt, ← c.index-rows-at.is) (omega arith))))

pub returns-else-code-row : goal.returns-else-code-row
returns-else-code-row g c =
    let rows = c.args.self.now.rows.now in
    let row = c.index-rows-at.result in
    stretch (λ _. search rules) (search rules) (λ k low high.
    first_value_here rows k c.args.at row (omega arith)
    (λ i d l h. let e = c.requires.before i d l h in omega arith)
    (rw c.index-rows-at.is at (meets_within k k row (omega arith) high))
    ∙ ap (λ r. Some r.value) (sym c.index-rows-at.is))
