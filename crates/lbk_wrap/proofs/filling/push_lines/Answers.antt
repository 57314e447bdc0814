use Rattle.std.proofs.Common.{◌≡◌, ℕ, ◌+◌, ◌<◌, ◌≤◌, List, [], ◌∷◌, ◌++◌, length, drop, ap, sym, ◌∙◌, arith, subst, add-one, drop-cons, slice_index_or}
use Rattle.lbk_feed.proofs.Appended.{HasPut-within, on_err}
use Rattle.lbk_wrap.specs.declared.open.Line.{Line}
use Rattle.lbk_wrap.specs.declared.open.LineKind.TheVariants.{May}
use Rattle.lbk_wrap.specs.Filled.{filled, written}
use Rattle.lbk_wrap.specs.Orders.{AreInARow}
use Rattle.lbk_wrap.proofs.filling.push_lines.Goals as goal

first_left : (lines : List Line) (k : ℕ) (none : Line) → k < length lines
    → drop k lines ≡ slice_index_or lines k none ∷ drop (k + 1) lines
first_left lines k none h = drop-cons lines k none h ∙ ap (λ n. slice_index_or lines k none ∷ drop n lines) (sym (add-one k))

row-end : (at end : ℕ) (lines : List Line) → AreInARow at end lines → at ≤ end
row-end at end [] row = omega arith
row-end at end (l ∷ ls) row = omega (arith, row-end l.next end ls row.3)

within : (lines : List Line) (k : ℕ) (none : Line) (at end most : ℕ) → k < length lines → AreInARow at end (drop k lines)
    → end ≤ most → (slice_index_or lines k none).next ≤ most
within lines k none at end most h row few =
    let rest = subst (AreInARow at end) (first_left lines k none h) row in
    omega (arith, row-end (slice_index_or lines k none).next end (drop (k + 1) lines) rest.3)

pub push_line-requires-clause-within : goal.push_line-requires-clause-within
push_line-requires-clause-within c =
    let row = c.loop-line.invariant.row in
    within c.args.lines.now c.loop-line.line-index _ row.0 row.1 (length c.args.text.now) c.loop-line-test.true row.3 row.2

pub returns-in_err-push_line-clause-refused : goal.returns-in_err-push_line-clause-refused
returns-in_err-push_line-clause-refused c =
    let lines = c.args.lines.now in
    let k = c.loop-line.line-index in
    let none : Line = record { start = 0; end = 0; next = 0; columns = 0; kind = May } in
    let text = c.args.text.now in
    let keep = c.args.keep in
    let middle = c.loop-line.out.items in
    let whole = ap (λ ls. middle ++ filled text keep ls) (sym (first_left lines k none c.loop-line-test.true)) ∙ c.loop-line.invariant.all in
    on_err c.from_residual.result
    (HasPut-within c.args.out.now.items middle c.push_line.new.out.items (written text keep (slice_index_or lines k none))
    (filled text keep (drop (k + 1) lines)) (filled text keep lines) c.in_err-push_line.ensures.refused whole
    c.loop-line.invariant.longer)
