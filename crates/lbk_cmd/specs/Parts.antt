-- The output for the parts of a text.
use Rattle.std.specs.Prelude.{◌≡◌, ℕ, Bool, false, true, List, [], ◌∷◌, ◌++◌}
use Rattle.lbk_rules.specs.declared.Cell.{Cell}
use Rattle.lbk_rules.specs.declared.Rule.TheVariants.{Lb3}
use Rattle.lbk_values.specs.declared.profile.Profile.{Profile}
use Rattle.lbk_rules.specs.Labels.{label_of}
use Rattle.lbk_passage.specs.Joins.{end_before_more}
use Rattle.lbk_passage.specs.Marks.{Marked}
use Rattle.lbk_passage.specs.Parts.{passages_in}
use Rattle.lbk_cmd.specs.Show.{shown_passage}
use Rattle.lbk_cmd.specs.Texts.{lines_from}

-- the lines of a part that begins at byte `at` of the text, and that another part follows or not
abbrev pub lines_in : (ℕ → List Marked → List ℕ) → Profile → (ℕ → Cell) → ℕ → Bool → List ℕ → List ℕ
lines_in lines profile cell at follows part = lines_from lines at (passages_in profile cell follows part)

-- what `show` writes for a part
abbrev pub shown_in : Profile → (ℕ → Cell) → ℕ → Bool → List ℕ → List ℕ
shown_in profile cell = lines_in (λ start ms. shown_passage ms) profile cell

-- whether or not another part follows, `show` writes the same for a part, except the last label
pub record DiffersInLabel (profile : Profile) (cell : ℕ → Cell) (part : List ℕ) : Type 0 where
  pub front : List ℕ
  pub alone : shown_in profile cell 0 false part ≡ front ++ (label_of Lb3 ++ 10 ∷ [])
  pub followed : shown_in profile cell 0 true part ≡ front ++ (label_of (end_before_more cell part).rule ++ 10 ∷ [])
