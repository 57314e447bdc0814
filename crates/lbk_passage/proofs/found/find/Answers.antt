use Rattle.std.proofs.Common.{◌≡◌, length, ap, ◌∙◌, arith}
use Rattle.lbk_bytes.proofs.OrderLemmas.{AreInOrder-none}
use Rattle.lbk_passage.proofs.FoundLemmas.{Finds-none, Finds-full, Finds-end, end-few, found-few, reached-on}
use Rattle.lbk_passage.proofs.found.find.Goals as goal

pub returns-then-from : goal.returns-then-from
returns-then-from g c =
    Finds-none c.requires c.args.out.now (length c.args.out.now) c.if-from.true

pub returns-then-here-out : goal.returns-then-here-out
returns-then-here-out g c =
    let fill = c.fill_by-here in
    let filled = fill.ensures.3 in
    let reached = reached-on c.requires c.if-from.false (filled.reached (g.C.CellSource.cell_of c.args.cells.now) _ fill.ensures.2) in
    let order = filled.in_order c.args.from.state.at (omega arith, AreInOrder-none c.args.out.now c.args.from.state.at c.args.from.state.at) in
    Finds-full c.requires fill.result fill.new.out (length c.args.out.now) reached
    filled.within.1 (omega (arith, filled.within.2)) (omega (arith, filled.within.0)) (omega (arith, c.if-here-out.true)) order.1.each

pub overflow_add-result : goal.overflow_add-result
overflow_add-result g c =
    let fill = c.fill_by-here in
    let filled = fill.ensures.3 in
    let reached = reached-on c.requires c.if-from.false (filled.reached (g.C.CellSource.cell_of c.args.cells.now) _ fill.ensures.2) in
    let few = found-few c.requires fill.result fill.new.out fill.result.count _ c.utf8.text reached.joined (omega (arith, filled.within.0)) in
    omega (arith, few)

pub overflow_add-result-2 : goal.overflow_add-result-2
overflow_add-result-2 g c =
    let fill = c.fill_by-here in
    let filled = fill.ensures.3 in
    let reached = reached-on c.requires c.if-from.false (filled.reached (g.C.CellSource.cell_of c.args.cells.now) _ fill.ensures.2) in
    let put = c.put_end-count.ensures.front c.args.profile (g.C.CellSource.cell_of c.args.cells.now) in
    let ends : fill.result.at ≡ length c.args.text.now = filled.stops (omega (arith, c.if-here-out.false, filled.within.0)) in
    let few = end-few c.requires fill.result fill.new.out c.put_end-count.new.out c.put_end-count.result c.utf8.text reached ends put
    (omega (arith, c.put_end-count.ensures.within.0)) in
    omega (arith, few)

pub returns : goal.returns
returns g c =
    let fill = c.fill_by-here in
    let filled = fill.ensures.3 in
    let reached = reached-on c.requires c.if-from.false (filled.reached (g.C.CellSource.cell_of c.args.cells.now) _ fill.ensures.2) in
    let put = c.put_end-count.ensures.front c.args.profile (g.C.CellSource.cell_of c.args.cells.now) in
    let ends : fill.result.at ≡ length c.args.text.now = filled.stops (omega (arith, c.if-here-out.false, filled.within.0)) in
    let order = filled.in_order c.args.from.state.at (omega arith, AreInOrder-none c.args.out.now c.args.from.state.at c.args.from.state.at) in
    Finds-end c.requires fill.result fill.new.out c.put_end-count.new.out c.put_end-count.result (length c.args.out.now) reached ends put
    filled.within.1 (omega (arith, ends)) (omega (arith, c.put_end-count.ensures.within.0)) (omega (arith, c.put_end-count.ensures.within.0))
    (c.put_end-count.ensures.breaks order.1.each)
