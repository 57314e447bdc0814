use Rattle.std.proofs.Common.{arith, length, subst, sym, take, ◌∙◌, chars, IsUtf8}
use Rattle.lbk_rules.specs.Breaks.{breaks}
use Rattle.lbk_passage.specs.Ahead.{EndsFirst, IsAhead, TakesTold}
use Rattle.lbk_passage.proofs.AheadLemmas.{Tells-taken}
use Rattle.lbk_passage.proofs.ahead.Ahead.tell.Goals as goal

pub returns-then-count-gt0 : goal.returns-then-count-gt0
returns-then-count-gt0 g c =
    let cell = g.C.CellSource.cell_of c.args.known.now.cells.now in
    let p = c.args.paragraph.now in
    let a = c.args.self.now in
    let all = take a.left (breaks c.args.profile cell (chars p.feed.ready)) in
    Tells-taken c.args.profile cell p a c.take.new.self c.first_end-count.result (subst IsUtf8 c.ready-ready.ensures c.ready-ready.utf8)
    (sym c.is_in_hand.ensures ∙ c.if-is_in_hand.false) c.requires
    (subst (λ l. EndsFirst all (length l) c.first_end-count.result) c.ready-ready.ensures (c.first_end-count.ensures all c.requires c.if-count-gt0.true))
    c.take.result c.args.self.now (subst (λ n. TakesTold a c.take.new.self c.first_end-count.result n c.take.result) c.limit.ensures c.take.ensures)

pub returns : goal.returns
returns g c =
    let cell = g.C.CellSource.cell_of c.args.known.now.cells.now in
    let p = c.args.paragraph.now in
    let a = c.find.new.self in
    let count = c.first_end-count-2.result in
    let all = take a.left (breaks c.args.profile cell (chars p.feed.ready)) in
    let h = subst (λ l. IsAhead c.args.profile cell l a) c.ready-ready.ensures c.find.ensures in
    Tells-taken c.args.profile cell p a c.take-2.new.self count (subst IsUtf8 c.ready-ready.ensures c.ready-ready.utf8)
    (sym c.is_in_hand.ensures ∙ c.if-is_in_hand.false) h
    (subst (λ l. EndsFirst all (length l) count) c.ready-ready.ensures (c.first_end-count-2.ensures all h (omega (arith, c.if-count-eq0.false))))
    c.take-2.result c.args.self.now (subst (λ n. TakesTold a c.take-2.new.self count n c.take-2.result) c.limit-2.ensures c.take-2.ensures)
