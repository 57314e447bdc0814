use Rattle.std.proofs.Common.{ap, sym, ◌∙◌, ◌&&◌, nat_lt, Bool}
use Rattle.lbk_chunk_reader.proofs.WordLemmas.{within-pieces}
use Rattle.lbk_chunk_reader.proofs.gathering.is_within.Goals as goal

pub returns-then-piece : goal.returns-then-piece
returns-then-piece c = λ start from joined past.
    let p = c.in-Some.piece.now in
    let w = within-pieces start from c.args.end c.args.pieces.now p c.in-Some.field-0-1.now
    c.in-Some.ensures.cases.0 joined past in
    (ap (λ (b : Bool). b && nat_lt p.start c.args.end) (sym c.if-piece.true) ∙ sym w.0, w.1)

pub returns-else-piece : goal.returns-else-piece
returns-else-piece c = λ start from joined past.
    let p = c.in-Some.piece.now in
    let w = within-pieces start from c.args.end c.args.pieces.now p c.in-Some.field-0-1.now
    c.in-Some.ensures.cases.0 joined past in
    (c.if-piece.false ∙ ap (λ (b : Bool). b && nat_lt p.start c.args.end) (sym c.if-piece.false) ∙ sym w.0, w.1)
