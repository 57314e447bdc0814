use Rattle.std.proofs.Common.{Some, ap, cond, refl, sym, ◌∙◌}
use Rattle.lbk_chunk_reader.specs.Numbered.{numbered}
use Rattle.lbk_chunk_reader.proofs.choosing.early_or.Goals as goal

pub returns-then-is_early : goal.returns-then-is_early
returns-then-is_early c =
    ap (λ b. cond b (Some c.args.cut.now) c.args.early) (sym c.if-is_early.true
    ∙ c.is_early.ensures (numbered c.args.cut.now) refl c.is_must.ensures)

pub returns : goal.returns
returns c =
    ap (λ b. cond b (Some c.args.cut.now) c.args.early) (sym c.if-is_early.false
    ∙ c.is_early.ensures (numbered c.args.cut.now) refl c.is_must.ensures)
