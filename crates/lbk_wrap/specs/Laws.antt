-- What the laws say of lines.
use Rattle.std.specs.Prelude.{◌≡◌, ◌⊎◌, ◌≤◌, true, List, [], ◌∷◌, ◌++◌, length}
use Rattle.std.specs.List.{AllByRecursion}
use Rattle.lbk_passage.specs.Passages.{is_must}
use Rattle.lbk_passage.specs.declared.passage.Segment.{Segment}
use Rattle.lbk_wrap.specs.declared.layout.Layout.{Layout}
use Rattle.lbk_wrap.specs.Columns.{Cluster, is_blank, shown}
use Rattle.lbk_wrap.specs.Lines.{Whole, columns}

-- a line must end behind the last of these segments, if there is one
abbrev pub EndWithMust : List Segment → Type 0
EndWithMust [] = Unit {0}
EndWithMust (s ∷ []) = is_must s.kind ≡ true
EndWithMust (s ∷ t ∷ ss) = EndWithMust (t ∷ ss)

-- what shows of some clusters is a front of them, and behind it are blanks alone
pub record OnlyBlanksHang (cs : List Cluster) : Type 0 where
  pub hanging : List Cluster
  pub is : shown cs ++ hanging ≡ cs
  pub blank : AllByRecursion (λ c. is_blank c ≡ true) hanging

-- the line is within the columns, or shows one cluster
abbrev pub IsNarrow : Layout → Whole → Type 0
IsNarrow layout line = (columns layout (shown line.clusters) ≤ layout.columns) ⊎ (length (shown line.clusters) ≤ 1)
