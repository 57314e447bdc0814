-- The first difference so far, with the verdicts of a machine. Only proofs need this.
use Rattle.std.specs.Prelude.{◌≡◌, ◌⊎◌, ℕ, ◌≤◌, Bool, true, false, nat_lt, ◌||◌, if◌then◌else◌, List, length}
use Rattle.std.specs.Prelude.{slice_get, Some, ⊤}
use Rattle.lbk_rules.specs.declared.Cell.{Cell}
use Rattle.lbk_rules.specs.declared.Kind.{Kind}
use Rattle.lbk_rules.specs.declared.Kind.TheVariants as K
use Rattle.lbk_values.specs.declared.profile.Profile.{Profile}
use Rattle.lbk_rules.specs.declared.Verdict.{Verdict}
use Rattle.lbk_notation.specs.declared.findings.Outcome.{Outcome}
use Rattle.lbk_notation.specs.declared.findings.Outcome.TheVariants.{Agree, Differ}
use Rattle.lbk_notation.specs.declared.marks.Form.{Form}
use Rattle.lbk_notation.specs.declared.marks.Form.TheVariants.{Plain, Kinds}
use Rattle.lbk_notation.specs.declared.marks.Mark.{Mark}
use Rattle.lbk_notation.specs.declared.marks.Mark.TheVariants.{No, May, Must}
use Rattle.lbk_notation.specs.TestLine.{Line}
use Rattle.lbk_notation.specs.Outcome.{Agrees, AgreesAt, verdict_at}

-- whether a mark agrees
abbrev pub agrees : Form → Mark → Kind → Bool
agrees Plain No K.No = true
agrees Plain May K.May = true
agrees Plain May K.Must = true
agrees Plain Must K.May = true
agrees Plain Must K.Must = true
agrees Kinds No K.No = true
agrees Kinds May K.May = true
agrees Kinds Must K.Must = true
agrees form mark kind = false

-- an earlier position differs
abbrev pub is_before : Outcome → ℕ → Bool
is_before Agree position = false
is_before (Differ earlier _ _) position = nat_lt earlier position

-- with the verdict of one more position
abbrev pub met : Form → Outcome → ℕ → Mark → Verdict → Outcome
met form outcome position file rules =
    if agrees form file rules.kind || is_before outcome position then outcome else Differ position file rules

-- with that of a position by its mark, if there is a verdict
pub record Meets (form : Form) (marks : List Mark) (position : ℕ) (rules : Verdict) (old new : Outcome) : Type 0 where
  pub file : Mark
  pub mark : slice_get marks position ≡ Some file
  pub same : new ≡ met form old position file rules

-- what was met is a difference
pub record Differs (cell : ℕ → Cell) (form : Form) (profile : Profile) (line : Line) (position : ℕ) (file : Mark)
    (rules : Verdict) : Type 0 where
  pub mark : slice_get line.marks position ≡ Some file
  pub verdict : rules ≡ verdict_at cell profile line position
  pub differs : Agrees form file rules.kind → ⊥
  pub within : position ≤ length line.scalars

abbrev pub IsTrueOf : (ℕ → Cell) → Form → Profile → Line → Outcome → Type 0
IsTrueOf cell form profile line Agree = ⊤
IsTrueOf cell form profile line (Differ position file rules) = Differs cell form profile line position file rules

-- the position k does not differ, or the first difference is not after it
abbrev pub Clears : (ℕ → Cell) → Form → Profile → Line → Outcome → ℕ → Type 0
Clears cell form profile line Agree k = AgreesAt cell form profile line k
Clears cell form profile line (Differ position _ _) k = AgreesAt cell form profile line k ⊎ (position ≤ k)
