use Rattle.std.proofs.Common.{refl, sym, ap, subst, ◌∙◌, take, arith}
use Rattle.std.proofs.lemmas.Result.{err_from_is_err_and}
use Rattle.lbk_words.specs.declared.word.Filled.{Filled}
use Rattle.lbk_words.specs.Ends.{FillsParts}
use Rattle.std.specs.Vec.{with_items}
use Rattle.std.proofs.lemmas.List.{with_items_is}
use Rattle.lbk_passage.specs.declared.front.Front.{Front}
use Rattle.lbk_passage.specs.declared.passage.Piece.{Piece}
use Rattle.lbk_passage.specs.Pieces.{letter_by, piece_of}
use Rattle.lbk_passage.proofs.PieceLemmas.{cuts-parts, cuts-refused, some-piece}
use Rattle.lbk_passage.proofs.pieces.cut_by_steps.Goals as goal

pub returns-in_err-make_room-clause-cuts : goal.returns-in_err-make_room-clause-cuts
returns-in_err-make_room-clause-cuts g c =
    let cell = g.C.CellSource.cell_of c.args.known.now.cells.now in
    let text = c.args.text.now in
    let start = c.args.start in
    let p = err_from_is_err_and c.from_residual.result c.from_residual.ensures.1 in
    let room = c.in_err-make_room.ensures in
    cuts-refused cell text start c.args.pieces.now c.make_room.new.self 1 p.0 c.from_residual.result p.1 room.makes.refused room.makes.count room.full
    (some-piece cell text start c.requires.within c.requires.utf8)

pub returns-clause-cuts : goal.returns-clause-cuts
returns-clause-cuts g c =
    let cell = g.C.CellSource.cell_of c.args.known.now.cells.now in
    let text = c.args.text.now in
    let start = c.args.start in
    let old = c.args.pieces.now in
    let made = c.make_room.new.self in
    let makes = c.in_ok-make_room.ensures.makes in
    let filled = c.fill_parts-filled in
    let slots = c.as_mut_slice-slots.result.now in
    let from : Filled = record { count = made.count; at = start } in
    let new : Front Piece = record { items = with_items made.items filled.new.out; count = filled.result.count; within = c.pieces-2-1.given.0 } in
    cuts-parts cell text start old made from filled.result slots new _ refl c.requires.utf8 (omega (arith, c.requires.within))
    (ap (λ n. let f : Filled = record { count = n; at = start } in f) makes.count)
    (ap (take old.count) c.as_mut_slice-slots.ensures.value ∙ ap (λ n. take n made.items.items) (sym makes.count) ∙ makes.items)
    (subst (FillsParts piece_of (letter_by cell) text from slots filled.result) (sym (with_items_is made.items filled.new.out (filled.auto.out ∙ c.as_mut_slice-slots.ensures.len)))
    filled.ensures.parts)
    refl makes.kept makes.most refl (omega (arith, filled.ensures.onward.0, makes.count))
