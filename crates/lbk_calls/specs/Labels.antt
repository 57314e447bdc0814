-- The labels of rules and classes.
use Rattle.std.specs.Prelude.{◌≡◌, ℕ, ◌==◌, List, [], Option, Some, None, find}
use Rattle.std.specs.Char.{IsScalar}
use Rattle.lbk_rules.specs.declared.Cell.{Cell}
use Rattle.lbk_rules.specs.declared.Class.{Class}
use Rattle.lbk_rules.specs.declared.flat_table.FlatTable.{FlatTable}
use Rattle.lbk_rules.specs.declared.Rule.{Rule}
use Rattle.lbk_rules.specs.ClassLabels.{class_label}
use Rattle.lbk_rules.specs.Codes.{rule_number, rules}
use Rattle.lbk_rules.specs.FlatTable.{IsFlatOf}
use Rattle.lbk_rules.specs.Labels.{label_of}
use Rattle.lbk_calls.specs.Padding.{padded}

-- the four bytes of the label of a rule, if there is one
abbrev pub label_in : Option Rule → List ℕ
label_in None = padded 4 []
label_in (Some rule) = padded 4 (label_of rule)

-- the label of the rule that has this number; there is none where no rule has it
abbrev pub label_numbered : ℕ → List ℕ
label_numbered number = label_in (find (λ rule. rule_number rule == number) rules)

-- the four bytes of the label of a scalar's class: with any table that of some class, and none for other numbers
pub record NamesClass (table : FlatTable) (scalar : ℕ) (text : List ℕ) : Type 0 where
  pub class : (cell : ℕ → Cell) → IsFlatOf table cell → IsScalar scalar
      → text ≡ padded 4 (class_label (cell scalar).class)
  pub named : IsScalar scalar → (class : Class) × (text ≡ padded 4 (class_label class))
  pub none : ¬ IsScalar scalar → text ≡ padded 4 []
