use Rattle.lbk_words.proofs.steps.step_of.Goals as goal

pub returns : goal.returns
returns c = c.step_by_kind.ensures c.args.next.code (record { few = c.args.next.few; is = c.kind_of.ensures.kind })
