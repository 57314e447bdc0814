-- What the verdict of one position more does to the least difference.
use Rattle.std.proofs.Common.{◌≡◌, ℕ, ◌≤◌, ◌<◌, true, false, cond, ◌||◌, ◌⊎◌, inl, inr, ⊎_elim, List, [], ◌∷◌, ◌++◌, length, map, Option, Some, None, MatchOption, refl, sym, ap, subst, ◌∙◌, arith, append-nil}
use Rattle.std.specs.List.{slice_get}
use Rattle.std.specs.Option.{ForSome, option_map}
use Rattle.std.proofs.lemmas.List.{length-map}
use Rattle.std.proofs.lemmas.Bool.{cases_Bool, false≢true, ltb-false, ltb-true}
use Rattle.lbk_rules.specs.declared.Cell.{Cell}
use Rattle.lbk_rules.specs.declared.Kind.{Kind}
use Rattle.lbk_rules.specs.declared.Kind.TheVariants as K
use Rattle.lbk_values.specs.declared.profile.Profile.{Profile}
use Rattle.lbk_rules.specs.declared.Verdict.{Verdict}
use Rattle.lbk_rules.specs.Held.{answer_at, is_held, late_at, now_at}
use Rattle.lbk_rules.specs.Verdict.{verdict_between_in, verdict_in}
use Rattle.lbk_rules.proofs.CoverLemmas.{answer_at-below, late_at-below}
use Rattle.lbk_rules.proofs.MachineLemmas.{verdict_in-append}
use Rattle.lbk_rules.proofs.StepLemmas.{AllCome, AllCome-end, AllCome-turn, IsTaken, answer_at-verdict, late_at-verdict}
use Rattle.lbk_notation.specs.declared.findings.Outcome.{Outcome}
use Rattle.lbk_notation.specs.declared.findings.Outcome.TheVariants.{Agree, Differ}
use Rattle.lbk_notation.specs.declared.marks.Form.{Form}
use Rattle.lbk_notation.specs.declared.marks.Form.TheVariants.{Plain, Kinds}
use Rattle.lbk_notation.specs.declared.marks.Mark.{Mark}
use Rattle.lbk_notation.specs.declared.marks.Mark.TheVariants.{No, May, Must}
use Rattle.lbk_notation.specs.TestLine.{Line}
use Rattle.lbk_notation.specs.Met.{Clears, IsTrueOf, Meets, agrees, is_before, met}
use Rattle.lbk_notation.specs.Outcome.{Agrees, AgreesAt, IsOutcome, verdict_at}

pub agrees-yes : (form : Form) (mark : Mark) (kind : Kind) → agrees form mark kind ≡ true → Agrees form mark kind
agrees-yes Plain No K.No h = (λ _. refl, λ _. refl)
agrees-yes Plain May K.May h = (λ e. absurd (let no : ⊥ = cc in no), λ e. absurd (let no : ⊥ = cc in no))
agrees-yes Plain May K.Must h = (λ e. absurd (let no : ⊥ = cc in no), λ e. absurd (let no : ⊥ = cc in no))
agrees-yes Plain Must K.May h = (λ e. absurd (let no : ⊥ = cc in no), λ e. absurd (let no : ⊥ = cc in no))
agrees-yes Plain Must K.Must h = (λ e. absurd (let no : ⊥ = cc in no), λ e. absurd (let no : ⊥ = cc in no))
agrees-yes Kinds No K.No h = refl
agrees-yes Kinds May K.May h = refl
agrees-yes Kinds Must K.Must h = refl
agrees-yes Plain No K.May h = absurd (false≢true h)
agrees-yes Plain No K.Must h = absurd (false≢true h)
agrees-yes Plain May K.No h = absurd (false≢true h)
agrees-yes Plain Must K.No h = absurd (false≢true h)
agrees-yes Kinds No K.May h = absurd (false≢true h)
agrees-yes Kinds No K.Must h = absurd (false≢true h)
agrees-yes Kinds May K.No h = absurd (false≢true h)
agrees-yes Kinds May K.Must h = absurd (false≢true h)
agrees-yes Kinds Must K.No h = absurd (false≢true h)
agrees-yes Kinds Must K.May h = absurd (false≢true h)

pub agrees-no : (form : Form) (mark : Mark) (kind : Kind) → agrees form mark kind ≡ false → Agrees form mark kind → ⊥
agrees-no Plain No K.No h a = false≢true (sym h)
agrees-no Plain May K.May h a = false≢true (sym h)
agrees-no Plain May K.Must h a = false≢true (sym h)
agrees-no Plain Must K.May h a = false≢true (sym h)
agrees-no Plain Must K.Must h a = false≢true (sym h)
agrees-no Kinds No K.No h a = false≢true (sym h)
agrees-no Kinds May K.May h a = false≢true (sym h)
agrees-no Kinds Must K.Must h a = false≢true (sym h)
agrees-no Plain No K.May h a = (let e = a.0 refl in let no : ⊥ = cc in no)
agrees-no Plain No K.Must h a = (let e = a.0 refl in let no : ⊥ = cc in no)
agrees-no Plain May K.No h a = (let e = a.1 refl in let no : ⊥ = cc in no)
agrees-no Plain Must K.No h a = (let e = a.1 refl in let no : ⊥ = cc in no)
agrees-no Kinds No K.May h a = (let no : ⊥ = cc in no)
agrees-no Kinds No K.Must h a = (let no : ⊥ = cc in no)
agrees-no Kinds May K.No h a = (let no : ⊥ = cc in no)
agrees-no Kinds May K.Must h a = (let no : ⊥ = cc in no)
agrees-no Kinds Must K.No h a = (let no : ⊥ = cc in no)
agrees-no Kinds Must K.May h a = (let no : ⊥ = cc in no)

met-cases : (form : Form) (outcome : Outcome) (position : ℕ) (file : Mark) (rules : Verdict)
    → ((met form outcome position file rules ≡ outcome) × (Agrees form file rules.kind ⊎ (is_before outcome position ≡ true)))
    ⊎ ((met form outcome position file rules ≡ Differ position file rules) × (Agrees form file rules.kind → ⊥) × (is_before outcome position ≡ false))
met-cases form outcome position file rules =
    elim (cases_Bool (agrees form file rules.kind)) [
      | inl agree ↦
          inl (ap (λ v. cond (v || is_before outcome position) outcome (Differ position file rules)) agree, inl (agrees-yes form file rules.kind agree))
      | inr differ ↦
          let first = ap (λ v. cond (v || is_before outcome position) outcome (Differ position file rules)) differ in
          elim (cases_Bool (is_before outcome position)) [
            | inl before ↦ inl (first ∙ ap (λ v. cond v outcome (Differ position file rules)) before, inr before)
            | inr first_one ↦
                inr (first ∙ ap (λ v. cond v outcome (Differ position file rules)) first_one, agrees-no form file rules.kind differ, first_one)
          ]
    ]

Clears-agrees : (cell : ℕ → Cell) (form : Form) (profile : Profile) (line : Line) (outcome : Outcome) (k : ℕ)
    → AgreesAt cell form profile line k → Clears cell form profile line outcome k
Clears-agrees cell form profile line Agree k agree = agree
Clears-agrees cell form profile line (Differ position file rules) k agree = inl agree

Clears-before : (cell : ℕ → Cell) (form : Form) (profile : Profile) (line : Line) (outcome : Outcome) (k : ℕ)
    → is_before outcome k ≡ true → Clears cell form profile line outcome k
Clears-before cell form profile line Agree k before = absurd (false≢true before)
Clears-before cell form profile line (Differ position file rules) k before =
    inr (let earlier : position < k = ltb-true position k before in omega arith)

Clears-earlier : (cell : ℕ → Cell) (form : Form) (profile : Profile) (line : Line) (outcome : Outcome) (position : ℕ) (file : Mark) (rules : Verdict) (k : ℕ)
    → is_before outcome position ≡ false → Clears cell form profile line outcome k → Clears cell form profile line (Differ position file rules) k
Clears-earlier cell form profile line Agree position file rules k first clear = inl clear
Clears-earlier cell form profile line (Differ later _ _) position file rules k first (inl agree) = inl agree
Clears-earlier cell form profile line (Differ later _ _) position file rules k first (inr after) =
    inr (let order : position ≤ later = ltb-false later position first in omega arith)

-- a position that was clear stays so
met-kept : (cell : ℕ → Cell) (form : Form) (profile : Profile) (line : Line) (outcome : Outcome) (position : ℕ) (file : Mark) (rules : Verdict) (k : ℕ)
    → Clears cell form profile line outcome k → Clears cell form profile line (met form outcome position file rules) k
met-kept cell form profile line outcome position file rules k clear =
    elim (met-cases form outcome position file rules) [
      | inl same ↦ subst (λ (o : Outcome). Clears cell form profile line o k) (sym same.0) clear
      | inr new ↦
          subst (λ (o : Outcome). Clears cell form profile line o k) (sym new.0)
          (Clears-earlier cell form profile line outcome position file rules k new.2 clear)
    ]

-- the position itself is clear then
met-here : (cell : ℕ → Cell) (form : Form) (profile : Profile) (line : Line) (outcome : Outcome) (position : ℕ) (file : Mark) (rules : Verdict)
    → slice_get line.marks position ≡ Some file → rules ≡ verdict_at cell profile line position
    → Clears cell form profile line (met form outcome position file rules) position
met-here cell form profile line outcome position file rules mark verdict =
    elim (met-cases form outcome position file rules) [
      | inl same ↦
          subst (λ (o : Outcome). Clears cell form profile line o position) (sym same.0)
          (⊎_elim
          (λ agree. Clears-agrees cell form profile line outcome position (file, mark, subst (λ (v : Verdict). Agrees form file v.kind) verdict agree))
          (λ before. Clears-before cell form profile line outcome position before) same.1)
      | inr new ↦ subst (λ (o : Outcome). Clears cell form profile line o position) (sym new.0) (inr (omega arith))
    ]

-- what is kept is a difference
met-true : (cell : ℕ → Cell) (form : Form) (profile : Profile) (line : Line) (outcome : Outcome) (position : ℕ) (file : Mark) (rules : Verdict)
    → slice_get line.marks position ≡ Some file → rules ≡ verdict_at cell profile line position → position ≤ length line.scalars
    → IsTrueOf cell form profile line outcome → IsTrueOf cell form profile line (met form outcome position file rules)
met-true cell form profile line outcome position file rules mark verdict within kept =
    elim (met-cases form outcome position file rules) [
      | inl same ↦ subst (IsTrueOf cell form profile line) (sym same.0) kept
      | inr new ↦
          subst (IsTrueOf cell form profile line) (sym new.0) (record { mark = mark; verdict = verdict; differs = new.1; within = within })
    ]

-- An answer of the machine, where it came

abbrev pub Met : Form → Line → Option (ℕ × Verdict) → Outcome → Outcome → Type 0
Met form line came old new = MatchOption came (new ≡ old) (λ answer. Meets form line.marks answer.0 answer.1 old new)

pub Met-kept : (cell : ℕ → Cell) (form : Form) (profile : Profile) (line : Line) (came : Option (ℕ × Verdict)) (old new : Outcome) (k : ℕ)
    → Met form line came old new → Clears cell form profile line old k → Clears cell form profile line new k
Met-kept cell form profile line None old new k same clear = subst (λ (o : Outcome). Clears cell form profile line o k) (sym same) clear
Met-kept cell form profile line (Some answer) old new k meets clear =
    subst (λ (o : Outcome). Clears cell form profile line o k) (sym meets.same)
    (met-kept cell form profile line old answer.0 meets.file answer.1 k clear)

pub Met-here : (cell : ℕ → Cell) (form : Form) (profile : Profile) (line : Line) (came : Option (ℕ × Verdict)) (old new : Outcome) (position : ℕ)
    → came ≡ Some (position, verdict_at cell profile line position) → Met form line came old new → Clears cell form profile line new position
Met-here cell form profile line came old new position e meets =
    let here = subst (λ (a : Option (ℕ × Verdict)). Met form line a old new) e meets in
    subst (λ (o : Outcome). Clears cell form profile line o position) (sym here.same)
    (met-here cell form profile line old position here.file (verdict_at cell profile line position) here.mark refl)

pub Met-true : (cell : ℕ → Cell) (form : Form) (profile : Profile) (line : Line) (came : Option (ℕ × Verdict)) (old new : Outcome)
    → ForSome came (λ answer. (answer.1 ≡ verdict_at cell profile line answer.0) × (answer.0 ≤ length line.scalars))
    → Met form line came old new → IsTrueOf cell form profile line old → IsTrueOf cell form profile line new
Met-true cell form profile line None old new right same kept = subst (IsTrueOf cell form profile line) (sym same) kept
Met-true cell form profile line (Some answer) old new right meets kept =
    let is = right answer refl in
    subst (IsTrueOf cell form profile line) (sym meets.same)
    (met-true cell form profile line old answer.0 meets.file answer.1 meets.mark is.0 is.1 kept)

-- what a step's two answers, the second one that of position n, make clear
abbrev pub at : ℕ → Option Verdict → Option (ℕ × Verdict)
at n now = option_map (λ rules. (n, rules)) now

Met-taken : (cell : ℕ → Cell) (form : Form) (profile : Profile) (line : Line) (n : ℕ) (late : Option (ℕ × Verdict)) (now : Option Verdict)
    (old middle new : Outcome) → Met form line late old middle → Met form line (at n now) middle new
    → IsTaken (verdict_at cell profile line) n late now (Clears cell form profile line old) (Clears cell form profile line new)
Met-taken cell form profile line n late now old middle new first second = record {
  kept = λ k _ clear. Met-kept cell form profile line (at n now) middle new k second (Met-kept cell form profile line late old middle k first clear);
  late_taken = λ p e. Met-kept cell form profile line (at n now) middle new p second (Met-here cell form profile line late old middle p e first);
  now_taken = λ e. Met-here cell form profile line (at n now) middle new n (ap (at n) e) second;
}

now_at-verdict : (profile : Profile) (cells : List Cell) (x : Cell) (more : List Cell)
    → ForSome (now_at profile cells (x ∷ more)) (λ rules. rules ≡ verdict_in profile (cells ++ x ∷ more) (length cells))
now_at-verdict profile cells x more =
    elim (is_held profile cells (x ∷ more))
    as (λ v. ForSome (cond v None (Some (verdict_between_in profile cells (x ∷ more)))) (λ rules. rules ≡ verdict_in profile (cells ++ x ∷ more) (length cells))) [
      | true ↦ λ rules e. absurd (let none : ⊥ = cc in none)
      | false ↦ λ rules e. (let same : verdict_between_in profile cells (x ∷ more) ≡ rules = cc in sym same ∙ sym (verdict_in-append profile cells (x ∷ more)))
    ]

at-right : (cell : ℕ → Cell) (profile : Profile) (line : Line) (n : ℕ) (now : Option Verdict) → n ≤ length line.scalars
    → ForSome now (λ rules. rules ≡ verdict_at cell profile line n)
    → ForSome (at n now) (λ answer. (answer.1 ≡ verdict_at cell profile line answer.0) × (answer.0 ≤ length line.scalars))
at-right cell profile line n None within right = λ answer e. absurd (let none : ⊥ = cc in none)
at-right cell profile line n (Some rules) within right = λ answer e.
    let here : ℕ × Verdict = (n, rules) in
    let same : here ≡ answer = cc in
    subst (λ (a : ℕ × Verdict). (a.1 ≡ verdict_at cell profile line a.0) × (a.0 ≤ length line.scalars)) same (right rules refl, within)

-- what is known of the outcome: of each position answered, that no difference there comes before it; and that it is one
pub record Knows (cell : ℕ → Cell) (form : Form) (profile : Profile) (line : Line) (cells : List Cell) (outcome : Outcome) : Type 0 where
  pub come : AllCome profile cells (Clears cell form profile line outcome)
  pub true_of : IsTrueOf cell form profile line outcome

-- one more cell
pub Knows-turn : (cell : ℕ → Cell) (form : Form) (profile : Profile) (line : Line) (cells : List Cell) (x : Cell) (more next : List Cell) (n : ℕ)
    (late : Option (ℕ × Verdict)) (now : Option Verdict) (old middle new : Outcome)
    → cells ++ x ∷ more ≡ map cell line.scalars → cells ++ x ∷ [] ≡ next → length cells ≡ n → n < length line.scalars
    → late ≡ late_at profile cells x more → now ≡ now_at profile cells (x ∷ more)
    → Met form line late old middle → Met form line (at n now) middle new
    → Knows cell form profile line cells old → Knows cell form profile line next new
Knows-turn cell form profile line cells x more next n late now old middle new whole one_more place within late_same now_same first second knows =
    let late_right : ForSome late (λ answer. (answer.1 ≡ verdict_at cell profile line answer.0) × (answer.0 ≤ length line.scalars)) = λ answer e.
    (let is = late_at-verdict profile cells x more answer (sym late_same ∙ e) in
    let below = late_at-below profile cells x more answer (sym late_same ∙ e) in
    (is ∙ ap (λ text. verdict_in profile text answer.0) whole, omega (arith, below))) in
    let now_right : ForSome now (λ rules. rules ≡ verdict_at cell profile line n) = λ rules e.
    (now_at-verdict profile cells x more rules (sym now_same ∙ e) ∙ ap (λ text. verdict_in profile text (length cells)) whole
    ∙ ap (verdict_at cell profile line) place) in
    record {
      come = AllCome-turn profile (map cell line.scalars) cells x more next n late now _ _ whole one_more place late_same now_same
          (Met-taken cell form profile line n late now old middle new first second) knows.come;
      true_of = Met-true cell form profile line (at n now) middle new (at-right cell profile line n now (omega arith) now_right) second
          (Met-true cell form profile line late old middle late_right first knows.true_of);
    }

IsOutcome-cleared : (cell : ℕ → Cell) (form : Form) (profile : Profile) (line : Line) (outcome : Outcome)
    → ((k : ℕ) → k ≤ length line.scalars → Clears cell form profile line outcome k) → IsTrueOf cell form profile line outcome
    → IsOutcome cell form profile line outcome
IsOutcome-cleared cell form profile line Agree clear is = clear
IsOutcome-cleared cell form profile line (Differ position file rules) clear is = record {
  mark = is.mark;
  verdict = is.verdict;
  differs = is.differs;
  within = is.within;
  least = λ k below. ⊎_elim (λ agree. agree) (λ after. absurd (omega arith)) (clear k (omega (arith, is.within)));
}

-- the end
pub Knows-end : (cell : ℕ → Cell) (form : Form) (profile : Profile) (line : Line) (cells : List Cell) (n : ℕ)
    (late : Option (ℕ × Verdict)) (end : Verdict) (old middle new : Outcome)
    → cells ≡ map cell line.scalars → n ≡ length line.scalars
    → late ≡ answer_at profile cells [] → end ≡ verdict_in profile cells (length cells)
    → Met form line late old middle → Met form line (Some (n, end)) middle new
    → Knows cell form profile line cells old → IsOutcome cell form profile line new
Knows-end cell form profile line cells n late end old middle new whole count late_same end_same first second knows =
    let place : length cells ≡ n = ap length whole ∙ length-map line.scalars cell ∙ sym count in
    let taken : IsTaken (λ k. verdict_in profile cells k) (length cells) late (Some end) (Clears cell form profile line old) (Clears cell form profile line new) =
    subst (λ (text : List Cell). IsTaken (λ k. verdict_in profile text k) (length cells) late (Some end) (Clears cell form profile line old) (Clears cell form profile line new)) (sym whole)
    (subst (λ (m : ℕ). IsTaken (verdict_at cell profile line) m late (Some end) (Clears cell form profile line old) (Clears cell form profile line new)) (sym place)
    (Met-taken cell form profile line n late (Some end) old middle new first second)) in
    let all = AllCome-end profile cells late end _ _ late_same end_same taken knows.come in
    let late_right : ForSome late (λ answer. (answer.1 ≡ verdict_at cell profile line answer.0) × (answer.0 ≤ length line.scalars)) = λ answer e.
    (let is = answer_at-verdict profile cells [] answer (sym late_same ∙ e) in
    let below = answer_at-below profile cells [] answer (sym late_same ∙ e) in
    (is ∙ ap (λ text. verdict_in profile text answer.0) (append-nil cells ∙ whole), omega (arith, below))) in
    let end_right : ForSome (Some end) (λ rules. rules ≡ verdict_at cell profile line n) = λ rules e.
    (let same : end ≡ rules = cc in
    sym same ∙ end_same ∙ ap (λ text. verdict_in profile text (length cells)) whole ∙ ap (verdict_at cell profile line) place) in
    IsOutcome-cleared cell form profile line new (λ k within. all k (omega arith))
    (Met-true cell form profile line (at n (Some end)) middle new (at-right cell profile line n (Some end) (omega arith) end_right) second
    (Met-true cell form profile line late old middle late_right first knows.true_of))

pub Met-at : (form : Form) (line : Line) (n : ℕ) (now : Option Verdict) (old new : Outcome)
    → MatchOption now (new ≡ old) (λ rules. Meets form line.marks n rules old new) → Met form line (at n now) old new
Met-at form line n None old new met = met
Met-at form line n (Some rules) old new met = met
