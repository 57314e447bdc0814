use Rattle.lbk_rules.specs.CellPages.{page_cell}
use Rattle.lbk_cmd.proofs.Owning.{owned_read}
use Rattle.lbk_cmd.proofs.passages.read_passages.Goals as goal

pub returns-clause-passages : goal.returns-clause-passages
returns-clause-passages g c =
    owned_read c.args.files c.args.profile (page_cell c.in_ok-cells.cells) (g.R.Source.unread c.args.reader.now) c.own_passages.new.passages.items
    c.in_ok-cells.ensures.cells c.in_ok-own_passages.ensures.owned
