use Rattle.lbk_cmd.proofs.performing.perform_lines.Goals as goal

pub returns-in-None : goal.returns-in-None
returns-in-None g c = rw c.in-None.is (c.write_lines.result, c.write_lines.ensures, c.of_text.ensures)

pub returns-in-Some : goal.returns-in-Some
returns-in-Some g c = rw c.in-Some.is (c.write_range.result, c.write_range.ensures, c.of_text-in-Some.ensures)
