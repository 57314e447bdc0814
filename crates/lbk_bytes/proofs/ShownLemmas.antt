-- What a break shows of a verdict.
use Rattle.std.proofs.Common.{◌≡◌, ℕ, ◌%◌, ◌/◌, ◌<◌, Bool, true, false, not, refl, sym, ap, ◌∙◌, arith}
use Rattle.lbk_rules.specs.declared.Break.{Break}
use Rattle.lbk_rules.specs.declared.Kind.{Kind}
use Rattle.lbk_rules.specs.declared.Kind.TheVariants.{No, May, Must}
use Rattle.lbk_rules.specs.declared.Rule.{Rule}
use Rattle.lbk_rules.specs.declared.Verdict.{Verdict}
use Rattle.lbk_rules.specs.Breaks.{break_by}
use Rattle.lbk_rules.specs.Codes.{kind_number, rule_number, rule_numbered}
use Rattle.lbk_rules.specs.Rows.{IsShown, shown_of, verdict_shown}
use Rattle.lbk_rules.proofs.ShownLemmas.{kind-back, rule-back, shown-verdict}
use Rattle.lbk_bytes.specs.declared.raw_break.RawBreak.{RawBreak}
use Rattle.lbk_bytes.specs.Shown.{raw_of, shown}

-- what is not No is a break
pub is-some : (no : Bool) → not no ≡ true → no ≡ false
is-some true never = absurd (let f : ⊥ = cc in f)
is-some false is = refl

pub few-kinds : (kind : Kind) → kind_number kind < 3
few-kinds No = omega arith
few-kinds May = omega arith
few-kinds Must = omega arith

-- a break as numbers stands for the break
pub shown-raw : (found : Break) → shown (raw_of found) ≡ found
shown-raw found =
    let made : Kind → Rule → Break = λ k r. record { at = found.at; kind = k; rule = r } in
    ap (λ k. made k (rule_numbered (rule_number found.rule))) (kind-back found.kind) ∙ ap (λ r. made found.kind r) (rule-back found.rule)

-- the two numbers out of one
pub raw-split : (at number : ℕ) (verdict : Verdict) → number ≡ shown_of verdict
    → raw_of (break_by at verdict) ≡ record { at = at; kind = number % 256; rule = number / 256 }
raw-split at number verdict is =
    let made : ℕ → ℕ → RawBreak = λ k r. record { at = at; kind = k; rule = r } in
    let few = few-kinds verdict.kind in
    let kind : kind_number verdict.kind ≡ number % 256 = omega (arith, few, is) in
    let rule : rule_number verdict.rule ≡ number / 256 = omega (arith, few, is) in
    ap (λ k. made k (rule_number verdict.rule)) kind ∙ ap (λ r. made (number % 256) r) rule

-- a number of a verdict is the number of the verdict that it stands for
pub is-shown : (shown : ℕ) → IsShown shown → shown ≡ shown_of (verdict_shown shown)
is-shown shown known = known.1 ∙ ap shown_of (sym (shown-verdict shown known.0 known.1))
