use Rattle.lbk_words.proofs.steps.next_step.Goals as goal

pub returns : goal.returns
returns c = record {
  read = c.scalar_at-next.ensures;
  step = c.step_of.ensures;
}
