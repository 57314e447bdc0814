use Rattle.std.proofs.Common.{◌≡◌, ◌*◌, ◌+◌, ap, ap₂, arith}
use Rattle.lbk_rules.specs.declared.Verdict.{Verdict}
use Rattle.lbk_rules.specs.Rows.{shown_of}
use Rattle.lbk_passage.proofs.found.break_of.Goals as goal

pub returns : goal.returns
returns c = λ found is.
    let verdict : Verdict = record { kind = found.kind; rule = found.rule } in
    let number : 256 * c.from.result + c.from-2.result ≡ shown_of verdict =
    omega (arith, c.from.ensures, c.from-2.ensures, ap (λ r. r.kind) is, ap (λ r. r.rule) is) in
    let decided = c.verdict_of-verdict.ensures verdict number in
    ap₂ (λ at (v : Verdict). record { at = at; kind = v.kind; rule = v.rule }) (ap (λ r. r.at) is) decided
