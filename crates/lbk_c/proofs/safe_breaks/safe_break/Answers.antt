use Rattle.std.proofs.Common.{◌≡◌, sym, subst, ◌∙◌, arith}
use Rattle.bstr.specs.Utf8.{pieces}
use Rattle.lbk_values.specs.declared.profile.Profile.{Profile}
use Rattle.lbk_bytes.specs.Bytes.{breaks_of_bytes}
use Rattle.lbk_streams.specs.Cuts.{CutsBefore}
use Rattle.lbk_c.specs.SafeBreaks.{IsSafeBreak, last_line}
use Rattle.lbk_c.proofs.SafeLemmas.{behind-cut, last-from, last-safe, same-rules}
use Rattle.lbk_c.proofs.safe_breaks.safe_break.Goals as goal

pub returns-in-Some-clause-last : goal.returns-in-Some-clause-last
returns-in-Some-clause-last g c = λ cell rules flat named.
    let text = c.args.text.now in
    let cut = c.cut_before-cut in
    let same : c.in-Some.rules ≡ rules = same-rules c.in-Some.rules rules c.args.profile (sym c.in-Some.ensures) named in
    subst (λ (p : Profile). c.last_break.result ≡ last_line 0 (breaks_of_bytes p cell text)) same
    (c.last_break.ensures.last cell flat
    ∙ sym (last-from c.in-Some.rules cell text cut.result (λ some. omega (arith, some, cut.ensures.before, c.saturating_sub.ensures)) cut.ensures.within
    (cut.ensures.last cell flat).safe (λ low high. cut.ensures.joined cell c.in-Some.rules flat low high)))

pub returns-in-Some-clause-safe : goal.returns-in-Some-clause-safe
returns-in-Some-clause-safe g c = λ cell rules flat named.
    subst (λ n. IsSafeBreak rules cell c.args.text.now n) (sym (returns-in-Some-clause-last g c cell rules flat named))
    (last-safe rules cell c.args.text.now)

pub returns-in-Some-clause-behind_cuts : goal.returns-in-Some-clause-behind_cuts
returns-in-Some-clause-behind_cuts g c = λ cell place flat safe inside.
    let behind = behind-cut cell c.args.text.now _ c.cut_before-cut.result place (c.cut_before-cut.ensures.last cell flat) safe inside
    (omega (arith, inside, c.saturating_sub.ensures)) in
    omega (arith, behind, c.last_break.ensures.within.0)

pub returns-in-None-clause-behind_cuts : goal.returns-in-None-clause-behind_cuts
returns-in-None-clause-behind_cuts g c = λ cell place flat safe inside.
    behind-cut cell c.args.text.now _ c.cut_before-cut.result place (c.cut_before-cut.ensures.last cell flat) safe inside
    (omega (arith, inside, c.saturating_sub.ensures))

pub returns-in-None-clause-unknown : goal.returns-in-None-clause-unknown
returns-in-None-clause-unknown g c = λ other.
    let cut = c.cut_before-cut in
    subst (λ n. CutsBefore pieces (g.K.KindSource.kinds_of c.args.table.now) (g.K.KindSource.pairs_of c.args.table.now) c.args.text.now n cut.result) c.saturating_sub.ensures cut.ensures
