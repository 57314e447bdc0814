use Rattle.std.proofs.Common.{ap, arith, false, length, true}
use Rattle.lbk_chunk_reader.specs.PassageWords.{words_in_pieces}
use Rattle.lbk_chunk_reader.proofs.WordLemmas.{counted-on, no-items}
use Rattle.lbk_chunk_reader.proofs.gathering.words_behind.Goals as goal

pub loop-piece-preserved-then-piece : goal.loop-piece-preserved-then-piece
loop-piece-preserved-then-piece c = λ start few.
    let was = c.loop-piece.invariant start few in
    let counted = counted-on start c.loop-piece.count c.loop-piece.left.now c.in-Some.rest.now c.in-Some.piece.now true
    c.in-Some.ensures.cases.0 c.if-piece.true in
    omega (arith, counted, was, few, c.saturating_add-count.ensures)

pub loop-piece-preserved : goal.loop-piece-preserved
loop-piece-preserved c = λ start few.
    let was = c.loop-piece.invariant start few in
    let counted = counted-on start c.loop-piece.count c.loop-piece.left.now c.in-Some.rest.now c.in-Some.piece.now false
    c.in-Some.ensures.cases.0 c.if-piece.false in
    omega (arith, counted, was)

pub returns : goal.returns
returns c = λ start few.
    let was = c.loop-piece.invariant start few in
    let none = ap (λ l. length (words_in_pieces start l)) (no-items c.loop-piece.left.now c.in_default.ensures.cases) in
    omega (arith, was, none)
