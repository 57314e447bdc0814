-- How a line of a break test compares with the rules.
use Rattle.std.specs.Prelude.{◌≡◌, ℕ, ◌<◌, ◌≤◌, ◌↔◌, length, map, slice_get, Some}
use Rattle.lbk_rules.specs.declared.Cell.{Cell}
use Rattle.lbk_rules.specs.declared.Kind.{Kind}
use Rattle.lbk_rules.specs.declared.Kind.TheVariants as K
use Rattle.lbk_values.specs.declared.profile.Profile.{Profile}
use Rattle.lbk_rules.specs.declared.Verdict.{Verdict}
use Rattle.lbk_rules.specs.Verdict.{verdict_in}
use Rattle.lbk_notation.specs.declared.findings.Outcome.{Outcome}
use Rattle.lbk_notation.specs.declared.findings.Outcome.TheVariants.{Agree, Differ}
use Rattle.lbk_notation.specs.declared.marks.Form.{Form}
use Rattle.lbk_notation.specs.declared.marks.Form.TheVariants.{Plain, Kinds}
use Rattle.lbk_notation.specs.declared.marks.Mark.{Mark}
use Rattle.lbk_notation.specs.declared.marks.Mark.TheVariants.{No}
use Rattle.lbk_notation.specs.Marked.{mark_of}
use Rattle.lbk_notation.specs.TestLine.{Line}

-- in form Kinds a mark agrees if it is the kind, in form Plain if both are No or neither is
abbrev pub Agrees : Form → Mark → Kind → Type 0
Agrees Kinds mark kind = mark ≡ mark_of kind
Agrees Plain mark kind = (mark ≡ No) ↔ (kind ≡ K.No)

-- the verdict of position k of the line's scalars
abbrev pub verdict_at : (ℕ → Cell) → Profile → Line → ℕ → Verdict
verdict_at cell profile line k = verdict_in profile (map cell line.scalars) k

-- there is a mark at k, and it agrees with the verdict there
abbrev pub AgreesAt : (ℕ → Cell) → Form → Profile → Line → ℕ → Type 0
AgreesAt cell form profile line k =
    (mark : Mark) × (slice_get line.marks k ≡ Some mark) × Agrees form mark (verdict_at cell profile line k).kind

-- the first position whose mark does not agree
pub record IsFirstDifference (cell : ℕ → Cell) (form : Form) (profile : Profile) (line : Line) (position : ℕ)
    (file : Mark) (rules : Verdict) : Type 0 where
  pub mark : slice_get line.marks position ≡ Some file
  pub verdict : rules ≡ verdict_at cell profile line position
  pub differs : ¬ (Agrees form file rules.kind)
  pub within : position ≤ length line.scalars
  pub least : (k : ℕ) → k < position → AgreesAt cell form profile line k

abbrev pub IsOutcome : (ℕ → Cell) → Form → Profile → Line → Outcome → Type 0
IsOutcome cell form profile line Agree = (k : ℕ) → k ≤ length line.scalars → AgreesAt cell form profile line k
IsOutcome cell form profile line (Differ position file rules) =
    IsFirstDifference cell form profile line position file rules
