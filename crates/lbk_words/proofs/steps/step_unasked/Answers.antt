use Rattle.lbk_words.proofs.steps.step_unasked.Goals as goal

pub returns : goal.returns
returns c = λ quiet far. c.step_of_kind.ensures quiet c.args.code far (record { few = c.requires.1; is = c.kind_of.ensures.kind })
