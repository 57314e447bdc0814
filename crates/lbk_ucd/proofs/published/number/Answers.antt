use Rattle.std.proofs.Common.{◌≡◌, drop, take, take-append-drop, sym, ap, ◌∙◌}
use Rattle.std.proofs.lemmas.Str.{IsUtf8-from_ascii}
use Rattle.std.specs.Str.Parse.{without_leading_plus}
use Rattle.lbk_ucd.proofs.Numbers.{ascii, digits-are, no-plus}
use Rattle.lbk_ucd.proofs.published.number.Goals as goal

pub returns-in_default : goal.returns-in_default
returns-in_default c found = c.in_default.ensures.cases.0 (IsUtf8-from_ascii _ (ascii _ c.digits_ahead-len.ensures.digits))

pub returns-in-Err : goal.returns-in-Err
returns-in-Err c (n, others, begins) =
    let text = c.args.bytes.now in
    let len = c.digits_ahead-len.result in
    let digits = take len text in
    let are = digits-are text digits (drop len text) others n (sym (take-append-drop len text))
    c.digits_ahead-len.ensures.digits c.digits_ahead-len.ensures.rest begins in
    let same : without_leading_plus c.in-Ok.digits.now ≡ digits =
    ap without_leading_plus c.in-Ok.ensures.cases.0 ∙ no-plus digits c.digits_ahead-len.ensures.digits in
    c.in-Err.ensures.value.0 (rw same are)
