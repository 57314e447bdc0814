use Rattle.std.proofs.Common.{◌++◌, length, drop, replicate, ap, ◌∙◌}
use Rattle.std.proofs.lemmas.List.{drop-replicate}
use Rattle.lbk_calls.proofs.padding.padded.Goals as goal

pub returns : goal.returns
returns g c =
    let text = c.args.text.now in
    let rest = drop (length text) (replicate g.row.SIZE 0) in
    ap (λ l. l ++ rest) c.copy_from_slice.ensures.after ∙ ap (λ l. text ++ l) (drop-replicate (length text) g.row.SIZE 0)
