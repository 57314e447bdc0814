use Rattle.std.proofs.Common.{◌≡◌, ◌<◌, ◌≤◌, nat_lt, length, slice_index_or, ap, ◌∙◌, arith}
use Rattle.lbk_passage.proofs.Letters.{letter-told}
use Rattle.lbk_passage.proofs.pieces.is_word.Goals as goal

pub returns-then-bytes-told : goal.returns-then-bytes-told
returns-then-bytes-told g c =
    let cell = g.C.CellSource.cell_of c.args.known.now.cells.now in
    let piece = c.args.piece.now in
    let some : 0 < length piece = c.requires.some in
    let lengths = c.args.known.now.flags.lengths_told in
    let same = c.as_bytes-bytes.ensures.value in
    let told : c.length_told-told.result ≡ slice_index_or lengths (slice_index_or piece 0 0) 0 =
    c.length_told-told.ensures ∙ ap (λ bytes. slice_index_or lengths (slice_index_or bytes 0 0) 0) same in
    let short : length piece ≤ slice_index_or lengths (slice_index_or piece 0 0) 0 = omega (arith, ap length same, told, c.if-bytes-told.true) in
    ap (nat_lt 1) told ∙ letter-told cell lengths piece c.utf8.piece c.args.known.now.letters some short
