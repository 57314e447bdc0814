use Rattle.std.proofs.Common.{ap, ◌∙◌}
use Rattle.lbk_rules.specs.Kinds.{kind_cell, real_kind}
use Rattle.lbk_rules.proofs.kind_source.KindSource.cell_by_kind.Goals as goal

pub returns : goal.returns
returns g c = λ cell known.
    c.cell_of_kind.ensures ∙ ap (λ kind. kind_cell (real_kind kind)) c.kind_at.ensures ∙ known c.args.c c.ranges.c.0
