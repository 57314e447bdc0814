use Rattle.std.proofs.Common.{◌≡◌, ◌≢◌, ◌∙◌, ℕ, List, [], ◌∷◌, ◌++◌, ap, subst, arith, rules}
use Rattle.std.specs.Borrow.{Bor}
use Rattle.std.specs.Option.{MatchOption}
use Rattle.std.proofs.lemmas.Str.Pattern.{strip_suffix_char}
use Rattle.lbk_args.specs.Numbers.{last_of, unit_of}
use Rattle.lbk_args.proofs.Units.{not_one, stripped, unit_small}
use Rattle.lbk_args.proofs.numbers.without_unit.Goals as goal

pub returns : goal.returns
returns c =
    let text = c.args.text.now in
    let letter : c.from.result ≡ last_of text = c.from.ensures ∙ c.last_of-last.ensures in
    let unit : unit_of (last_of text) ≢ 1 = search rules in
    let cases = subst (λ (k : ℕ). MatchOption c.strip_suffix.result ((front : List ℕ) → text ≢ front ++ (k ∷ [])) (λ x. text ≡ x.now ++ (k ∷ []))) letter
    (strip_suffix_char c.from.result text c.strip_suffix.result c.strip_suffix.ensures.cases (let small = unit_small (last_of text) unit in omega (arith, letter, small))) in
    rw (not_one (unit_of (last_of text)) unit) (ap (λ (x : Bor (List ℕ)). x.now) c.unwrap_or.ensures
    ∙ stripped text c.strip_suffix.result c.args.text unit cases)
