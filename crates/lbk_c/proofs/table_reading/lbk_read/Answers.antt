use Rattle.std.proofs.Common.{ℕ, ◌≡◌, sym, ap, ◌∙◌, refl, arith}
use Rattle.lbk_rules.specs.CellOfTables.{cell_of_tables}
use Rattle.lbk_rules.specs.Cells.{cell_of_files}
use Rattle.lbk_rules.specs.Kinds.{kind_of}
use Rattle.lbk_c.specs.Faults.{files_of}
use Rattle.lbk_c.proofs.TableLemmas.{cells-of-files, flat-same}
use Rattle.lbk_c.proofs.table_reading.lbk_read.Goals as goal

pub returns-in-Ok-fill : goal.returns-in-Ok-fill
returns-in-Ok-fill c =
    let files = files_of c.args.line_break c.args.east_asian c.args.category c.args.emoji in
    let read = c.in-Ok.ensures in
    let filled = c.in-Ok-fill.ensures in
    let cells : (code : ℕ) → cell_of_tables c.in-Ok.tables code ≡ cell_of_files files code =
    λ code. cells-of-files c.in-Ok.tables files code (read.line_break code) (read.east_asian code) (read.category code) (read.pictographic code) in
    record {
      accepted = λ _. read.lawful;
      table = λ _ cell are. flat-same (cell_of_tables c.in-Ok.tables) cell c.fill.new.self (λ code scalar. cells code ∙ sym (are code scalar)) filled.table;
      whole = λ _. filled.whole;
      neighbours = λ _. filled.neighbours;
      kinds = λ _ code below. filled.kinds code below ∙ ap kind_of (cells code);
      none = λ _. refl;
      refused = λ some. absurd (omega arith);
      untouched = λ some. absurd (omega arith);
    }
