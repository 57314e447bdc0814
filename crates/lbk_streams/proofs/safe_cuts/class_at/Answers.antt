use Rattle.std.proofs.Common.{ap, ◌∙◌}
use Rattle.bstr.specs.Utf8.{decoded, or_replacement}
use Rattle.lbk_rules.specs.declared.Cell.{Cell}
use Rattle.lbk_rules.specs.Normal.{normal}
use Rattle.lbk_bytes.proofs.PieceLemmas.{rest-of}
use Rattle.lbk_streams.proofs.safe_cuts.class_at.Goals as goal

pub returns-clause-class : goal.returns-clause-class
unfolding normal
returns-clause-class g c = λ cell are_kinds.
    ap (λ (x : Cell). x.class) (c.cell_by_kind.ensures cell are_kinds)
    ∙ ap (λ x. (cell x).class) (c.decode_lossy-c.ensures.char ∙ ap (λ bs. or_replacement (decoded bs).char) (rest-of c.args.text.now c.args.place))
