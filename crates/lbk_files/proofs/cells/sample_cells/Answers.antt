use Rattle.std.proofs.Common.{refl}
use Rattle.lbk_files.proofs.Samples.{sampled}
use Rattle.lbk_files.proofs.cells.sample_cells.Goals as goal

pub returns : goal.returns
returns c = sampled _ c.read_cells.result c.read_cells.ensures.refused c.read_cells.ensures.cells
    (record { line_break = refl; east_asian = refl; category = refl; emoji = refl })
