use Rattle.std.proofs.Common.{[], ◌∷◌, ◌++◌, ap, take, ◌∙◌, arith}
use Rattle.std.proofs.lemmas.List.{take_more_set}
use Rattle.std.proofs.lemmas.Str.{IsCharBoundary-from_drop}
use Rattle.lbk_passage.specs.Pieces.{is_word}
use Rattle.lbk_passage.proofs.PieceLemmas.{cut-one, piece-ends}
use Rattle.lbk_passage.proofs.pieces.put_piece.Goals as goal

pub range-requires-clause-start_boundary : goal.range-requires-clause-start_boundary
range-requires-clause-start_boundary g c = λ some. IsCharBoundary-from_drop c.args.text.now c.args.start (omega (arith, c.requires.within)) c.requires.utf8

pub range-requires-clause-end_boundary : goal.range-requires-clause-end_boundary
range-requires-clause-end_boundary g c = piece-ends c.args.text.now c.args.start c.args.end c.requires.piece.0 c.requires.utf8 c.requires.piece.1

pub returns : goal.returns
returns g c =
    let cell = g.C.CellSource.cell_of c.args.known.now.cells.now in
    let all = c.args.pieces.now in
    let at = c.args.at in
    let word = c.is_word-word.result in
    cut-one cell c.args.text.now c.args.start c.args.end c.requires.piece.0 word (take at all) _ c.requires.utf8 c.requires.piece.1
    (c.is_word-word.ensures ∙ ap (is_word cell) c.range.ensures.value)
    (take_more_set all at c.put.new.self c.requires.room ∙ ap (λ piece. take at all ++ piece ∷ []) c.put.ensures)
