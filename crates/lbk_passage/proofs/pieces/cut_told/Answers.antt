use Rattle.std.proofs.Common.{◌+◌, count_ones, inr, take, arith}
use Rattle.std.proofs.lemmas.Result.{err_from_is_err_and}
use Rattle.lbk_passage.specs.Front.{items_of}
use Rattle.lbk_passage.proofs.PieceLemmas.{all-next, cut-on, cuts-refused, next-told, told-few}
use Rattle.lbk_passage.proofs.pieces.cut_told.Goals as goal

pub returns-in_err-make_room-clause-cuts : goal.returns-in_err-make_room-clause-cuts
returns-in_err-make_room-clause-cuts g c =
    let cell = g.C.CellSource.cell_of c.args.known.now.cells.now in
    let text = c.args.text.now in
    let base = c.args.base in
    let ends = c.args.ends in
    let p = err_from_is_err_and c.from_residual.result c.from_residual.ensures.1 in
    let room = c.in_err-make_room.ensures in
    cuts-refused cell text base c.args.pieces.now c.make_room.new.self (count_ones ends) p.0 c.from_residual.result p.1 room.makes.refused room.makes.count room.full
    (told-few (count_ones ends) cell text base base ends (omega arith) (omega arith) c.requires.utf8 (all-next text base ends c.requires.told))

pub put_piece-requires-clause-piece : goal.put_piece-requires-clause-piece
put_piece-requires-clause-piece g c =
    let l = c.loop-left in
    let end = c.first_set.ensures in
    (next-told c.args.text.now c.args.base l.start l.left c.first_set.result c.without_first-left.result l.invariant.next (omega (arith, l.invariant.fits)) c.loop-left-test.true end.within end.lowest
    (c.without_first-left.ensures.cleared c.first_set.result end.within end.lowest)).piece

pub put_piece-requires-clause-room : goal.put_piece-requires-clause-room
put_piece-requires-clause-room g c =
    let l = c.loop-left in
    let end = c.first_set.ensures in
    let next = next-told c.args.text.now c.args.base l.start l.left c.first_set.result c.without_first-left.result l.invariant.next (omega (arith, l.invariant.fits)) c.loop-left-test.true end.within end.lowest
    (c.without_first-left.ensures.cleared c.first_set.result end.within end.lowest) in
    let made = c.in_ok-make_room.ensures.makes in
    omega (arith, next.fewer, l.invariant.count, made.room, c.as_mut_slice-slots.ensures.len, l.auto.slots)

pub loop-left-preserved : goal.loop-left-preserved
loop-left-preserved g c =
    let cell = g.C.CellSource.cell_of c.args.known.now.cells.now in
    let text = c.args.text.now in
    let base = c.args.base in
    let l = c.loop-left in
    let end = c.first_set.ensures in
    let next = next-told text base l.start l.left c.first_set.result c.without_first-left.result l.invariant.next (omega (arith, l.invariant.fits)) c.loop-left-test.true end.within end.lowest
    (c.without_first-left.ensures.cleared c.first_set.result end.within end.lowest) in
    let put = c.put_piece.ensures in
    let grows = next.piece.1.grows in
    let ahead = l.invariant.next in
    record {
      cut = cut-on cell text base l.start (base + c.first_set.result) (items_of c.args.pieces.now) (take l.count l.slots) (take (l.count + 1) c.put_piece.new.pieces) l.invariant.cut put;
      count = omega (arith, next.fewer, l.invariant.count);
      some = inr (omega (arith, grows, ahead.place));
      next = next.rest;
      fits = omega (arith, c.without_first-left.ensures.fewer, l.invariant.fits);
    }
