use Rattle.std.proofs.Common.{◌≡◌, sym, subst}
use Rattle.lbk_ucd.specs.Published.{NamesVersion, rules_version}
use Rattle.lbk_ucd.proofs.Numbers.{is-rules}
use Rattle.lbk_ucd.proofs.published.claim_of.Goals as goal

pub returns-in-Some : goal.returns-in-Some
returns-in-Some c =
    let same : c.in-Some.version ≡ rules_version = is-rules c.in-Some.version (sym c.if-eq.ensures) in
    subst (NamesVersion c.args.which c.args.bytes.now) same c.in-Some.ensures
