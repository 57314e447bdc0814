use Rattle.std.proofs.Common.{◌≡◌, [], refl, sym, ap, ◌∙◌, append-nil, subst, ℕ, ◌≤◌, length}
use Rattle.std.proofs.Math.ListN.{drop_of_length-le}
use Rattle.std.proofs.lemmas.Str.{IsCharBoundary-start}
use Rattle.lbk_wrap.specs.Lines.{lines, parts_from}
use Rattle.lbk_wrap.specs.Steps.{lines_from}
use Rattle.lbk_wrap.proofs.Laying.{lines-same}
use Rattle.lbk_wrap.proofs.Orders.{lines-in_a_row}
use Rattle.lbk_wrap.specs.Orders.{AreInARow}
use Rattle.lbk_wrap.proofs.Standing.{open_at-standing}
use Rattle.lbk_wrap.proofs.wrapping.lines.Goals as goal

pub loop-segment-init : goal.loop-segment-init
loop-segment-init c =
    rw (c.new-found.ensures.items, c.at-line.ensures.line)
    (record { all = refl; small = rw c.at-line.ensures.line at c.at-line.ensures.small; boundary = IsCharBoundary-start c.args.text.now c.utf8.text })

pub returns : goal.returns
unfolding lines
returns c =
    let text = c.args.text.now in
    let segments = c.args.segments.now in
    let layout = c.args.layout.now in
    let none = drop_of_length-le segments c.loop-segment-test.false in
    let all = rw none at c.loop-segment.invariant.all in
    let same : c.loop-segment.found.items ≡ lines layout text segments =
    sym (append-nil c.loop-segment.found.items) ∙ all
    ∙ ap (λ line. lines_from layout line (parts_from 0 text segments)) (open_at-standing layout 0)
    ∙ lines-same layout 0 [] (parts_from 0 text segments) in
    record { lines = same; in_a_row = subst (λ ls. (end : ℕ) × (end ≤ length text) × AreInARow 0 end ls) (sym same) (lines-in_a_row layout text segments c.utf8.text) }
