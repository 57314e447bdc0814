use Rattle.std.proofs.Common.{◌∙◌, ◌+◌, List, ℕ, length, drop, Some, None, MatchOption, refl, ap, subst}
use Rattle.std.proofs.lemmas.List.{take_rest}
use Rattle.bstr.specs.Find.{FindsNeedle, OccursAt}
use Rattle.lbk_ucd.specs.declared.published.Version.{Version}
use Rattle.lbk_ucd.specs.Published.{BeginsWithVersion, name_before_version, words_before_version}
use Rattle.lbk_ucd.proofs.Numbers.{in-file, no-words}
use Rattle.lbk_ucd.proofs.published.version_in.Goals as goal

pub returns-in_err-at : goal.returns-in_err-at
returns-in_err-at c =
    let bytes = c.args.bytes.now in
    let words = c.as_bytes-words.ensures.value ∙ c.words_before_version.ensures in
    let none : FindsNeedle bytes (words_before_version c.args.which) 0 None = subst (λ n. FindsNeedle bytes n 0 None) words c.in_err-at.ensures in
    rw c.from_residual.ensures (λ found. no-words bytes _ found.1.told.0 none found.1.told.1)

pub returns : goal.returns
returns c =
    let bytes = c.args.bytes.now in
    let name = c.as_bytes.ensures.value ∙ c.name_before_version.ensures in
    let words = c.as_bytes-words.ensures.value ∙ c.words_before_version.ensures in
    let begins : OccursAt bytes (name_before_version c.args.which) 0 =
    subst (λ n. OccursAt bytes n 0) name (c.if-not-starts_with_str.ensures.0 refl) in
    let found : FindsNeedle bytes (words_before_version c.args.which) 0 (Some c.in_ok-at.at) =
    subst (λ n. FindsNeedle bytes n 0 (Some c.in_ok-at.at)) words c.in_ok-at.ensures in
    let rest = take_rest bytes (c.in_ok-at.at + length c.as_bytes-words.result.now)
    ∙ ap (λ (n : List ℕ). drop (c.in_ok-at.at + length n) bytes) words in
    in-file c.args.which bytes c.in_ok-at.at c.version_at.result begins found
    (subst (λ (l : List ℕ). MatchOption c.version_at.result (¬ ((v : Version) × BeginsWithVersion l v)) (BeginsWithVersion l)) rest c.version_at.ensures)
