use Rattle.lbk_units.proofs.filling.fill_part.Goals as goal

pub run_mixed-requires-clause-steps : goal.run_mixed-requires-clause-steps
run_mixed-requires-clause-steps g c = (c.args.profile, c.rows_of-steps.ensures)

pub run-requires-clause-steps : goal.run-requires-clause-steps
run-requires-clause-steps g c = (c.args.profile, c.rows_of-steps.ensures)
