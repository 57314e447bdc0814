-- Kinds and rules as numbers.
use Rattle.std.specs.Prelude.{ℕ, ◌+◌, ◌*◌, ◌==◌, List, [], ◌∷◌, find, slice_index_or, unwrap_or}
use Rattle.lbk_uax14.specs.declared.verdicts.Kind.{Kind}
use Rattle.lbk_uax14.specs.declared.verdicts.Kind.TheVariants.{No, May, Must}
use Rattle.lbk_uax14.specs.declared.verdicts.Rule.{Rule}
use Rattle.lbk_uax14.specs.declared.verdicts.Rule.TheVariants.{Lb2, Lb3, Lb4, Lb5, Lb6, Lb7, Lb8, Lb8a, Lb9, Lb11}
use Rattle.lbk_uax14.specs.declared.verdicts.Rule.TheVariants.{Lb12, Lb12a, Lb13, Lb14, Lb15, Lb15a, Lb15b, Lb16}
use Rattle.lbk_uax14.specs.declared.verdicts.Rule.TheVariants.{Lb17, Lb18, Lb19, Lb20, Lb21, Lb21a, Lb21b, Lb22, Lb23}
use Rattle.lbk_uax14.specs.declared.verdicts.Rule.TheVariants.{Lb23a, Lb24, Lb25, Lb26, Lb27, Lb28, Lb29, Lb30, Lb30a}
use Rattle.lbk_uax14.specs.declared.verdicts.Rule.TheVariants.{Lb30b, Lb31}

-- the number of a kind
abbrev pub kind_number : Kind → ℕ
kind_number No = 0
kind_number May = 1
kind_number Must = 2

-- the number of a rule: 8 times its own number, plus the place of its letter, so that rules of later versions of
-- Unicode do not renumber others
abbrev pub rule_number : Rule → ℕ
rule_number Lb2 = 8 * 2
rule_number Lb3 = 8 * 3
rule_number Lb4 = 8 * 4
rule_number Lb5 = 8 * 5
rule_number Lb6 = 8 * 6
rule_number Lb7 = 8 * 7
rule_number Lb8 = 8 * 8
rule_number Lb8a = 8 * 8 + 1
rule_number Lb9 = 8 * 9
rule_number Lb11 = 8 * 11
rule_number Lb12 = 8 * 12
rule_number Lb12a = 8 * 12 + 1
rule_number Lb13 = 8 * 13
rule_number Lb14 = 8 * 14
rule_number Lb15 = 8 * 15
rule_number Lb15a = 8 * 15 + 1
rule_number Lb15b = 8 * 15 + 2
rule_number Lb16 = 8 * 16
rule_number Lb17 = 8 * 17
rule_number Lb18 = 8 * 18
rule_number Lb19 = 8 * 19
rule_number Lb20 = 8 * 20
rule_number Lb21 = 8 * 21
rule_number Lb21a = 8 * 21 + 1
rule_number Lb21b = 8 * 21 + 2
rule_number Lb22 = 8 * 22
rule_number Lb23 = 8 * 23
rule_number Lb23a = 8 * 23 + 1
rule_number Lb24 = 8 * 24
rule_number Lb25 = 8 * 25
rule_number Lb26 = 8 * 26
rule_number Lb27 = 8 * 27
rule_number Lb28 = 8 * 28
rule_number Lb29 = 8 * 29
rule_number Lb30 = 8 * 30
rule_number Lb30a = 8 * 30 + 1
rule_number Lb30b = 8 * 30 + 2
rule_number Lb31 = 8 * 31

-- all rules, in the annex's order
abbrev pub rules : List Rule
rules = Lb2 ∷ Lb3 ∷ Lb4 ∷ Lb5 ∷ Lb6 ∷ Lb7 ∷ Lb8 ∷ Lb8a ∷ Lb9 ∷ Lb11 ∷ Lb12 ∷ Lb12a ∷ Lb13 ∷ Lb14 ∷ Lb15 ∷ Lb15a ∷ Lb15b
    ∷ Lb16 ∷ Lb17 ∷ Lb18 ∷ Lb19 ∷ Lb20 ∷ Lb21 ∷ Lb21a ∷ Lb21b ∷ Lb22 ∷ Lb23 ∷ Lb23a ∷ Lb24 ∷ Lb25 ∷ Lb26 ∷ Lb27 ∷ Lb28
    ∷ Lb29 ∷ Lb30 ∷ Lb30a ∷ Lb30b ∷ Lb31 ∷ []

-- the kind that has this number
abbrev pub kind_numbered : ℕ → Kind
kind_numbered number = slice_index_or (No ∷ May ∷ Must ∷ []) number No

-- the rule that has this number
abbrev pub rule_numbered : ℕ → Rule
rule_numbered number = unwrap_or (find (λ rule. rule_number rule == number) rules) Lb2
