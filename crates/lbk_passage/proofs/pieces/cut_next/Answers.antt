use Rattle.std.proofs.Common.{ℕ, ◌+◌, List, length, slice_index, ap, arith}
use Rattle.std.proofs.lemmas.Result.{err_from_is_err_and}
use Rattle.lbk_words.proofs.PartLemmas.{lone-part}
use Rattle.lbk_passage.proofs.PieceLemmas.{cuts-refused, pieces-step}
use Rattle.lbk_passage.proofs.pieces.cut_next.Goals as goal

pub returns-in_err-make_room-clause-cuts : goal.returns-in_err-make_room-clause-cuts
returns-in_err-make_room-clause-cuts g c =
    let cell = g.C.CellSource.cell_of c.args.known.now.cells.now in
    let text = c.args.text.now in
    let start = c.args.start in
    let low = ap (λ (bytes : List ℕ). slice_index bytes start) c.as_bytes-bytes.ensures.value in
    let lone = lone-part text start (omega arith) (omega (arith, low)) in
    let p = err_from_is_err_and c.from_residual.result c.from_residual.ensures.1 in
    let room = c.in_err-make_room.ensures in
    cuts-refused cell text start c.args.pieces.now c.make_room.new.self 1 p.0 c.from_residual.result p.1 room.makes.refused room.makes.count room.full
    (omega (arith, ap length (pieces-step cell text start (start + 1) lone.0 c.requires.utf8 lone.1)))

pub put_piece-requires-clause-piece : goal.put_piece-requires-clause-piece
put_piece-requires-clause-piece g c =
    let low = ap (λ (bytes : List ℕ). slice_index bytes c.args.start) c.as_bytes-bytes.ensures.value in
    lone-part c.args.text.now c.args.start (omega arith) (omega (arith, low))
