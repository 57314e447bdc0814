use Rattle.std.proofs.Common.{◌==◌, ◌+◌, arith}
use Rattle.std.proofs.lemmas.List.{take_rest}
use Rattle.std.proofs.lemmas.List.Sums.{fails_before_first}
use Rattle.std.proofs.lemmas.List.Splits.{slice_split_first, slice_split_none}
use Rattle.lbk_ucd.proofs.file.first_line.Goals as goal

pub returns-then-end-text : goal.returns-then-end-text
returns-then-end-text c =
    let text = c.args.text.now in
    rw (take_rest text (c.place_of-end.result + 1), c.place_of-end.ensures.place) (slice_split_first (λ byte. byte == 10) text 0 (omega arith))

pub returns-else-end-text : goal.returns-else-end-text
returns-else-end-text c =
    let text = c.args.text.now in
    slice_split_none (λ byte. byte == 10) text (λ k d lt. fails_before_first (λ byte. byte == 10) text k d (omega arith))
