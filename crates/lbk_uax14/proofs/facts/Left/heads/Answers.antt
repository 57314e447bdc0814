-- Whether the last cell is hard is asked of it.
use Rattle.std.proofs.Common.{not, ◌||◌, sym, ap, ◌∙◌}
use Rattle.lbk_uax14.specs.Classes.{hard, mark, none_of}
use Rattle.lbk_uax14.specs.Facts.{facts}
use Rattle.lbk_uax14.specs.Units.{nearest}
use Rattle.lbk_uax14.proofs.AskedLemmas.{hard-asked}
use Rattle.lbk_uax14.proofs.facts.Left.heads.Goals as goal

pub returns-then-is_hard : goal.returns-then-is_hard
unfolding facts
returns-then-is_hard c = λ side e.
    let last = sym (hard-asked (nearest side).class) ∙ ap (λ l. hard l.last) e ∙ sym c.is_hard.ensures
    ∙ c.if-is_hard.true in
    c.if-is_hard.true ∙ sym (ap (λ v. v || none_of mark c.args.cell.class) last)

pub returns-else-is_hard : goal.returns-else-is_hard
unfolding facts
returns-else-is_hard c = λ side e.
    let last = sym (hard-asked (nearest side).class) ∙ ap (λ l. hard l.last) e ∙ sym c.is_hard.ensures
    ∙ c.if-is_hard.false in
    ap not c.is_mark.ensures ∙ sym (ap (λ v. v || none_of mark c.args.cell.class) last)
