use Rattle.lbk_words.proofs.steps.first_row.Goals as goal

pub returns : goal.returns
returns c = c.first_row_of.ensures c.args.first.code (record { few = c.args.first.few; is = c.kind_of.ensures.kind })
