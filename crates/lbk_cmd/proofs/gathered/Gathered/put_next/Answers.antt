use Rattle.lbk_cmd.proofs.gathered.Gathered.put_next.Goals as goal

pub returns-in-Text : goal.returns-in-Text
returns-in-Text g c = rw c.in-Text.is c.put_text.ensures

pub returns-in-Segmented : goal.returns-in-Segmented
returns-in-Segmented g c =
    rw c.in-Segmented.is (c.put_segmented.ensures (g.C.CellSource.cell_of c.args.how.now.cells.now) c.args.how.now.profile c.args.how.now.limit)
