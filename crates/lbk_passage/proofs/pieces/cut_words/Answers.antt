use Rattle.std.proofs.Common.{◌*◌, ◌++◌, length, append-nil, length-append, sym, ap, ◌∙◌, arith, vec_capacity}
use Rattle.std.proofs.Math.Nat.{le-max_left}
use Rattle.std.proofs.lemmas.Result.{err_from_is_err_and}
use Rattle.lbk_passage.specs.Pieces.{pieces_of, pieces_on}
use Rattle.lbk_passage.specs.Front.{items_of}
use Rattle.lbk_passage.proofs.PieceLemmas.{pieces-end}
use Rattle.lbk_passage.proofs.RoomLemmas.{items-many, room-on}
use Rattle.lbk_passage.proofs.pieces.cut_words.Goals as goal

pub loop-start-init : goal.loop-start-init
unfolding pieces_of
loop-start-init g c =
    let cell = g.C.CellSource.cell_of c.args.known.now.cells.now in
    let others = pieces_on cell c.args.text.now 0 in
    record {
      cut = ap (λ items. items ++ others) c.clear.ensures.items;
      room = omega (arith, c.clear.ensures.room);
      most = omega (arith, c.clear.ensures.room, le-max_left (vec_capacity c.args.pieces.now.items) (2 * c.clear.new.self.count));
      within = omega arith;
      utf8 = c.utf8.text;
      met = c.requires.met;
    }

pub returns-in_err-start-clause-most : goal.returns-in_err-start-clause-most
returns-in_err-start-clause-most g c =
    let l = c.loop-start in
    let grows = c.cut_next.ensures.cuts.grows in
    room-on (vec_capacity c.args.pieces.now.items) (vec_capacity l.pieces.items) (vec_capacity c.cut_next.new.pieces.items) l.pieces.count c.cut_next.new.pieces.count l.invariant.most
    grows.most grows.onward

pub returns-in_err-start-clause-full : goal.returns-in_err-start-clause-full
returns-in_err-start-clause-full g c =
    let l = c.loop-start in
    let others = pieces_on (g.C.CellSource.cell_of c.args.known.now.cells.now) c.args.text.now l.start in
    let p = err_from_is_err_and c.from_residual.result c.from_residual.ensures.1 in
    let full = c.in_err-start.ensures.cuts.full in
    rw p.1 (omega (
      arith,
      full,
      ap length l.invariant.cut,
      length-append (items_of l.pieces) others,
      items-many l.pieces,
      l.invariant.room,
    ))

pub loop-start-preserved : goal.loop-start-preserved
loop-start-preserved g c =
    let l = c.loop-start in
    let grows = c.cut_next.ensures.cuts.grows in
    let next = c.in_ok-start.ensures.cuts.cut in
    record {
      cut = next.cut ∙ l.invariant.cut;
      room = omega (arith, grows.room, l.invariant.room);
      most = room-on (vec_capacity c.args.pieces.now.items) (vec_capacity l.pieces.items) (vec_capacity c.cut_next.new.pieces.items) l.pieces.count c.cut_next.new.pieces.count l.invariant.most
          grows.most grows.onward;
      within = next.within;
      utf8 = next.utf8;
      met = c.cut_next.ensures.met;
    }

pub returns-clause-cut : goal.returns-clause-cut
returns-clause-cut g c =
    let cell = g.C.CellSource.cell_of c.args.known.now.cells.now in
    let l = c.loop-start in
    sym (append-nil (items_of l.pieces))
    ∙ ap (λ rest. items_of l.pieces ++ rest) (sym (pieces-end cell c.args.text.now l.start (omega (arith, c.loop-start-test.false))))
    ∙ l.invariant.cut
