-- The number of a verdict leads back to it.
use Rattle.std.proofs.Common.{◌≡◌, ℕ, zero, suc, Bool, true, false, cond, List, [], ◌∷◌, eqb-true, ◌/◌, ◌%◌, ◌<◌, ◌==◌, Some, find, unwrap_or, not, refl, sym, subst, slice_index_or, ap, ◌∙◌, arith, lit<}
use Rattle.lbk_uax14.specs.declared.verdicts.Kind.{Kind}
use Rattle.lbk_uax14.specs.declared.verdicts.Kind.TheVariants.{No, May, Must}
use Rattle.lbk_uax14.specs.declared.verdicts.Rule.{Rule}
use Rattle.lbk_uax14.specs.declared.verdicts.Rule.TheVariants.{Lb2, Lb3, Lb4, Lb5, Lb6, Lb7, Lb8, Lb8a, Lb9, Lb11, Lb12, Lb12a, Lb13, Lb14, Lb15, Lb15a, Lb15b, Lb16, Lb17, Lb18, Lb19, Lb20, Lb21, Lb21a, Lb21b, Lb22, Lb23, Lb23a, Lb24, Lb25, Lb26, Lb27, Lb28, Lb29, Lb30, Lb30a, Lb30b, Lb31}
use Rattle.lbk_uax14.specs.declared.verdicts.Verdict.{Verdict}
use Rattle.lbk_uax14.specs.Breaks.{is_no}
use Rattle.lbk_uax14.specs.Codes.{kind_number, kind_numbered, rule_number, rule_numbered, rules}
use Rattle.lbk_rules.specs.declared.steps.TheConstants.{KINDS_BY_NUMBER, RULES}
use Rattle.lbk_rules.specs.Rows.{IsShown, shown_of, verdict_shown}

few-kinds : (kind : Kind) → kind_number kind < 256
few-kinds No = lit< tt
few-kinds May = lit< tt
few-kinds Must = lit< tt

pub kind-read : (kind : Kind) → slice_index_or KINDS_BY_NUMBER (kind_number kind % 4) No ≡ kind
kind-read No = refl
kind-read May = refl
kind-read Must = refl

pub same-rule : (rule : Rule) → slice_index_or RULES (rule_number rule) Lb2 ≡ rule
same-rule Lb2 = refl
same-rule Lb3 = refl
same-rule Lb4 = refl
same-rule Lb5 = refl
same-rule Lb6 = refl
same-rule Lb7 = refl
same-rule Lb8 = refl
same-rule Lb8a = refl
same-rule Lb9 = refl
same-rule Lb11 = refl
same-rule Lb12 = refl
same-rule Lb12a = refl
same-rule Lb13 = refl
same-rule Lb14 = refl
same-rule Lb15 = refl
same-rule Lb15a = refl
same-rule Lb15b = refl
same-rule Lb16 = refl
same-rule Lb17 = refl
same-rule Lb18 = refl
same-rule Lb19 = refl
same-rule Lb20 = refl
same-rule Lb21 = refl
same-rule Lb21a = refl
same-rule Lb21b = refl
same-rule Lb22 = refl
same-rule Lb23 = refl
same-rule Lb23a = refl
same-rule Lb24 = refl
same-rule Lb25 = refl
same-rule Lb26 = refl
same-rule Lb27 = refl
same-rule Lb28 = refl
same-rule Lb29 = refl
same-rule Lb30 = refl
same-rule Lb30a = refl
same-rule Lb30b = refl
same-rule Lb31 = refl

pub verdict-shown : (shown : ℕ) (kind : Kind) (rule : Rule) (verdict : Verdict) → ((k : Kind) → shown % 256 ≡ kind_number k → kind ≡ k)
    → ((r : Rule) → shown / 256 ≡ rule_number r → rule ≡ r) → shown ≡ shown_of verdict → record { kind = kind; rule = rule } ≡ verdict
verdict-shown shown kind rule verdict of_kind of_rule is =
    let few = few-kinds verdict.kind in
    let kinds = of_kind verdict.kind (let number : shown % 256 ≡ kind_number verdict.kind = omega (arith, few, is) in number) in
    let rules = of_rule verdict.rule (let number : shown / 256 ≡ rule_number verdict.rule = omega (arith, few, is) in number) in
    λ i. record { kind = kinds i; rule = rules i }

pub kind-back : (kind : Kind) → kind_numbered (kind_number kind) ≡ kind
kind-back No = refl
kind-back May = refl
kind-back Must = refl

pub rule-found : (rule : Rule) → find (λ r. rule_number r == rule_number rule) rules ≡ Some rule
rule-found Lb2 = refl
rule-found Lb3 = refl
rule-found Lb4 = refl
rule-found Lb5 = refl
rule-found Lb6 = refl
rule-found Lb7 = refl
rule-found Lb8 = refl
rule-found Lb8a = refl
rule-found Lb9 = refl
rule-found Lb11 = refl
rule-found Lb12 = refl
rule-found Lb12a = refl
rule-found Lb13 = refl
rule-found Lb14 = refl
rule-found Lb15 = refl
rule-found Lb15a = refl
rule-found Lb15b = refl
rule-found Lb16 = refl
rule-found Lb17 = refl
rule-found Lb18 = refl
rule-found Lb19 = refl
rule-found Lb20 = refl
rule-found Lb21 = refl
rule-found Lb21a = refl
rule-found Lb21b = refl
rule-found Lb22 = refl
rule-found Lb23 = refl
rule-found Lb23a = refl
rule-found Lb24 = refl
rule-found Lb25 = refl
rule-found Lb26 = refl
rule-found Lb27 = refl
rule-found Lb28 = refl
rule-found Lb29 = refl
rule-found Lb30 = refl
rule-found Lb30a = refl
rule-found Lb30b = refl
rule-found Lb31 = refl

pub rule-back : (rule : Rule) → rule_numbered (rule_number rule) ≡ rule
rule-back rule = ap (λ r. unwrap_or r Lb2) (rule-found rule)

-- the number leads back to the verdict
pub shown-verdict : (shown : ℕ) (verdict : Verdict) → shown ≡ shown_of verdict → verdict_shown shown ≡ verdict
unfolding verdict_shown
shown-verdict shown verdict is =
    let few = few-kinds verdict.kind in
    let kind : shown % 256 ≡ kind_number verdict.kind = omega (arith, few, is) in
    let rule : shown / 256 ≡ rule_number verdict.rule = omega (arith, few, is) in
    let kinds = ap kind_numbered kind ∙ kind-back verdict.kind in
    let rules = ap rule_numbered rule ∙ rule-back verdict.rule in
    λ i. record { kind = kinds i; rule = rules i }

kind-breaks : (kind : Kind) → not (kind_number kind == 0) ≡ not (is_no kind)
kind-breaks No = refl
kind-breaks May = refl
kind-breaks Must = refl

-- no line breaks where the number of the kind is 0
pub shown-breaks : (shown : ℕ) (verdict : Verdict) → shown ≡ shown_of verdict → not (shown % 256 == 0) ≡ not (is_no (verdict_shown shown).kind)
shown-breaks shown verdict is =
    let few = few-kinds verdict.kind in
    let kind : shown % 256 ≡ kind_number verdict.kind = omega (arith, few, is) in
    ap (λ n. not (n == 0)) kind ∙ kind-breaks verdict.kind ∙ ap (λ (v : Verdict). not (is_no v.kind)) (sym (shown-verdict shown verdict is))

kind-number : (number : ℕ) → number < 3 → kind_number (kind_numbered number) ≡ number
kind-number zero few = refl
kind-number (suc zero) few = refl
kind-number (suc (suc zero)) few = refl
kind-number (suc (suc (suc number))) few = absurd (omega arith)

-- what is found passes
find-some : (p : Rule → Bool) (all : List Rule) (rule : Rule) → find p all ≡ Some rule → p rule ≡ true
find-some p [] rule found = absurd (let no : ⊥ = cc in no)
find-some p (r ∷ rs) rule found =
    elim (p r) as (λ b. p r ≡ b → cond b (Some r) (find p rs) ≡ Some rule → p rule ≡ true) [
      | true ↦ λ is same. let at : r ≡ rule = cc in subst (λ x. p x ≡ true) at is
      | false ↦ λ _ later. find-some p rs rule later
    ] refl found

-- a number whose high half is a rule's and whose low half a kind's
pub shown-made : (shown : ℕ) (rule : Rule) → Some rule ≡ find (λ r. rule_number r == shown / 256) rules → shown % 256 < 3 → IsShown shown
shown-made shown rule found few =
    let is : rule_number rule ≡ shown / 256 = eqb-true _ _ (find-some (λ r. rule_number r == shown / 256) rules rule (sym found)) in
    let kind = kind-number (shown % 256) few in
    (record { kind = kind_numbered (shown % 256); rule = rule }, omega (arith, is, kind))

kind-below : (kind : Kind) → kind_number kind < 3
kind-below No = lit< tt
kind-below May = lit< tt
kind-below Must = lit< tt

-- a verdict's number has a rule and a kind
pub shown-rule : (shown : ℕ) (known : IsShown shown) → find (λ r. rule_number r == shown / 256) rules ≡ Some known.0.rule
shown-rule shown known =
    let few = few-kinds known.0.kind in
    let rule : shown / 256 ≡ rule_number known.0.rule = omega (arith, few, known.1) in
    ap (λ n. find (λ r. rule_number r == n) rules) rule ∙ rule-found known.0.rule

pub shown-kind : (shown : ℕ) → IsShown shown → shown % 256 < 3
shown-kind shown known = (let few = kind-below known.0.kind in omega (arith, few, known.1))
