use Rattle.std.proofs.Common.{◌<◌, arith}
use Rattle.lbk_words.proofs.KindTrie.{is-kind}
use Rattle.lbk_words.proofs.NearLemmas.{near-told}
use Rattle.lbk_words.proofs.near.NearScalars.kept.Goals as goal

pub returns-clause-told : goal.returns-clause-told
returns-clause-told c = λ letter met.
    let code = c.args.code in
    let within : code < 131072 = omega (arith, c.if-place-ge-NEAR.false) in
    let is = near-told letter c.args.self.now code met within (is-kind code (omega (arith, within))).few c.if-number-eq0.false in
    record { kind = is.0; is_letter = is.1 }
