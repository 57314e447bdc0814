use Rattle.std.proofs.Common.{Err, ap, inl, inr, subst, sym, ◌∙◌}
use Rattle.std.proofs.lemmas.Result.{err_from_is_err_and}
use Rattle.lbk_rules.specs.CellPages.{page_cell}
use Rattle.lbk_cmd.specs.ReadBack.{AreReadable, Say}
use Rattle.lbk_cmd.proofs.Breaking.{broken, readable, text_refused}
use Rattle.lbk_cmd.proofs.broken.break_text.Goals as goal

pub read_lines-requires : goal.read_lines-requires
read_lines-requires g c =
    subst AreReadable (sym c.deref.ensures.value)
    (readable (page_cell c.in_ok-cells.cells) c.args.limit c.args.profile _ _ c.in_ok-text.ensures.1 (g.R.Source.unread c.args.reader.now)
    c.in_ok-text.text.items c.in_ok-text.ensures.0)

pub returns-in_err-text-clause-reads : goal.returns-in_err-text-clause-reads
returns-in_err-text-clause-reads g c =
    let exit = err_from_is_err_and c.from_residual-in_err-text.result c.from_residual-in_err-text.ensures.1 in
    text_refused c.in_err-text.field-0.0 (exit.1 ∙ ap Err exit.2) c.in_ok-cells.ensures.cells (inl c.in_err-text.ensures)

pub returns-in_err-lines-clause-reads : goal.returns-in_err-lines-clause-reads
returns-in_err-lines-clause-reads g c =
    let exit = err_from_is_err_and c.from_residual-in_err-lines.result c.from_residual-in_err-lines.ensures.1 in
    text_refused c.in_err-lines.field-0.0 (exit.1 ∙ ap Err exit.2) c.in_ok-cells.ensures.cells (inr (c.in_err-lines.ensures, c.in_ok-text.ensures.1))

pub returns-clause-broken : goal.returns-clause-broken
returns-clause-broken g c =
    broken (page_cell c.in_ok-cells.cells) c.args.limit c.args.profile _ _ c.in_ok-text.ensures.1 (g.R.Source.unread c.args.reader.now)
    c.in_ok-text.text.items c.in_ok-text.ensures.0 c.args.files c.in_ok-lines.lines.items c.in_ok-cells.ensures.cells
    (subst (λ text. Say text c.in_ok-lines.lines.items) c.deref.ensures.value c.in_ok-lines.ensures)
