use Rattle.std.proofs.Common.{◌≡◌, ◌∙◌, ℕ, Option, None, false, length, sym, ap, chars, rules}
use Rattle.std.specs.Char.{IsScalar}
use Rattle.std.specs.List.{last_or}
use Rattle.std.specs.Option.{option_map_or}
use Rattle.std.proofs.lemmas.List.{nil_from_length}
use Rattle.std.proofs.lemmas.Str.{chars-nil}
use Rattle.lbk_cmd.specs.Mark.{is_line_end}
use Rattle.lbk_cmd.proofs.Placing.{last-char}
use Rattle.lbk_cmd.proofs.signed.ends_in_line_end.Goals as goal

pub returns-in-Some : goal.returns-in-Some
returns-in-Some g c =
    let cell = g.C.CellSource.cell_of c.args.cells.now in
    let is_scalar : IsScalar c.in-Some.last = search rules in
    let last = last-char c.args.text.now c.next_back.new.self.rest.now c.in-Some.last c.utf8.text is_scalar (sym c.chars.ensures.rest ∙ c.in-Some.ensures.steps) in
    c.is_line_end.ensures ∙ ap is_line_end c.cell.ensures
    ∙ ap (λ (o : Option ℕ). option_map_or (λ d. is_line_end (cell d)) o false) (sym last)

pub returns-in-None : goal.returns-in-None
returns-in-None g c =
    let cell = g.C.CellSource.cell_of c.args.cells.now in
    let none : length c.args.text.now ≡ 0 = ap length (sym c.chars.ensures.rest) ∙ c.in-None.ensures.steps.0 in
    ap (λ (o : Option ℕ). option_map_or (λ d. is_line_end (cell d)) o false)
    (sym (ap (last_or None) (ap chars (nil_from_length c.args.text.now none) ∙ chars-nil)))
