-- Where a line must end, and where a mark joins, told by two classes.
use Rattle.std.proofs.Common.{◌≡◌, ◌≢◌, ℕ, ◌<◌, ◌≤◌, Bool, true, false, cond, ◌&&◌, ◌||◌, not, List, [], ◌∷◌, ◌++◌}
use Rattle.std.proofs.Common.{length, take, drop, reverse, refl, sym, ap, ◌∙◌, arith}
use Rattle.std.proofs.lemmas.Bool.{false≢true}
use Rattle.std.proofs.lemmas.List.{take-append-le, drop-append-le}
use Rattle.lbk_uax14.specs.declared.classes.Class.{Class}
use Rattle.lbk_uax14.specs.declared.classes.Class.TheVariants.{MandatoryBreak, CombiningMark, ZWJ}
use Rattle.lbk_uax14.specs.declared.cells.Cell.{Cell}
use Rattle.lbk_uax14.specs.declared.verdicts.Kind.TheVariants.{No, Must}
use Rattle.lbk_values.specs.declared.profile.Profile.{Profile}
use Rattle.lbk_values.specs.declared.profile.Profile.TheVariants.{First, Second}
use Rattle.lbk_uax14.specs.declared.verdicts.Rule.TheVariants.{Lb2, Lb4, Lb5, Lb8a, Lb9}
use Rattle.lbk_uax14.specs.declared.verdicts.Verdict.{Verdict}
use Rattle.lbk_uax14.specs.Classes.{◌or◌, none_of, is, hard, mark, isZWJ, BK, CR, LF, NL, SP, ZW, QU}
use Rattle.lbk_uax14.specs.Ends.{ends_line, ends_between, end_after, end_of_text, joins, joined_after}
use Rattle.lbk_uax14.specs.Sides.{Side, before_spaces}
use Rattle.lbk_uax14.specs.Units.{unit, units, units_after, first, heads, nearest}
use Rattle.lbk_uax14.specs.Facts.{units_before}
use Rattle.lbk_uax14.specs.Held.{is_15b, is_held}
use Rattle.lbk_uax14.specs.Rules.{cell_rules}
use Rattle.lbk_uax14.specs.Chain.{choose, from_11, from_cells}
use Rattle.lbk_uax14.specs.Verdict.{verdict_between_in, verdict_in}
use Rattle.lbk_uax14.proofs.ChainLemmas.{verdict_between-chain}
use Rattle.lbk_uax14.proofs.HeldLemmas.{from_cells-settled, is_held-chain, mark-not_QU}
use Rattle.lbk_uax14.proofs.LookAheadLemmas.{look_ahead_between_in}
use Rattle.lbk_uax14.proofs.MachineLemmas.{reverse-snoc, verdict_in-end}
use Rattle.lbk_uax14.proofs.ParagraphLemmas.{IsEnd-ends, is_must, choose-never_must, cells-never_must}
use Rattle.lbk_uax14.proofs.ParagraphLemmas.{from_11-never_must, or-true, reverse-begins, true-unless}

-- a position after a cell, as the chain has it
after-chain : (profile : Profile) (left : List Cell) (x : Cell) (right : List Cell)
    → verdict_between_in profile (left ++ x ∷ []) right ≡ from_cells profile (x ∷ reverse left) right
after-chain profile left x right =
    verdict_between-chain profile (left ++ x ∷ []) right ∙ ap (λ l. from_cells profile l right) (reverse-snoc left x)

held-after : (profile : Profile) (left : List Cell) (x y : Cell) (right : List Cell)
    → is_held profile (left ++ x ∷ []) (y ∷ right) ≡ is_15b (from_cells profile (x ∷ reverse left) (y ∷ [])).rule
held-after profile left x y right =
    is_held-chain profile (left ++ x ∷ []) y right
    ∙ ap (λ l. is_15b (from_cells profile l (y ∷ [])).rule) (reverse-snoc left x)

-- what the rules after the second for rule 5 answer
abbrev after_line_end : Profile → Cell → Side → Cell → List Cell → Verdict
after_line_end profile x side y right =
    choose (drop 5 cell_rules) (x ∷ side) (y ∷ right) (from_11 profile (units_before (x ∷ side)) (units (y ∷ right)))

-- after no BK
ends_line-later : (class : Class) → BK class ≡ false → (CR or LF or NL) class ≡ ends_line class
ends_line-later class none = sym (rw none)

-- BK · between CR and LF · another class that ends a line
chosen-end : (must between later ends : Bool) (rest : Verdict) → (must ≡ false → later ≡ ends)
    → (ends && not between) ≡ true
    → cond must (record { kind = Must; rule = Lb4 })
    (cond between (record { kind = No; rule = Lb5 }) (cond later (record { kind = Must; rule = Lb5 }) rest))
    ≡ record { kind = Must; rule = cond must Lb4 Lb5 }
chosen-end true between later ends rest same h = refl
chosen-end false false later true rest same h = rw (same refl)
chosen-end false false later false rest same h = absurd (false≢true h)
chosen-end false true later true rest same h = absurd (false≢true h)
chosen-end false true later false rest same h = absurd (false≢true h)

from_cells-must : (profile : Profile) (side : Side) (x y : Cell) (right : List Cell)
    → ends_between x.class y.class ≡ true
    → from_cells profile (x ∷ side) (y ∷ right) ≡ end_after x.class
unfolding from_cells cell_rules
from_cells-must profile side x y right ends =
    chosen-end (BK x.class) (CR x.class && LF y.class) ((CR or LF or NL) x.class) (ends_line x.class)
    (after_line_end profile x side y right) (ends_line-later x.class) ends

pub must_between : (profile : Profile) (left : List Cell) (x y : Cell) (right : List Cell)
    → ends_between x.class y.class ≡ true
    → verdict_between_in profile (left ++ x ∷ []) (y ∷ right) ≡ end_after x.class
must_between profile left x y right ends =
    after-chain profile left x (y ∷ right) ∙ from_cells-must profile (reverse left) x y right ends

pub must-not_held : (profile : Profile) (left : List Cell) (x y : Cell) (right : List Cell)
    → ends_between x.class y.class ≡ true
    → is_held profile (left ++ x ∷ []) (y ∷ right) ≡ false
must-not_held profile left x y right ends =
    let never : (b : Bool) → is_15b (cond b Lb4 Lb5) ≡ false = elim [ true ↦ refl | false ↦ refl ] in
    held-after profile left x y right
    ∙ ap (λ v. is_15b v.rule) (from_cells-must profile (reverse left) x y [] ends) ∙ never (BK x.class)

-- no other position before the end

BK-not_CR : (class : Class) → BK class ≡ true → CR class ≡ false
unfolding is
BK-not_CR MandatoryBreak _ = refl
BK-not_CR _ h = absurd (false≢true h)

-- between CR and LF
chosen-between : (must carriage feed : Bool) (rest : Verdict) → (must ≡ true → carriage ≡ false)
    → (carriage && feed) ≡ true
    → is_must (cond must (record { kind = Must; rule = Lb4 })
    (cond (carriage && feed) (record { kind = No; rule = Lb5 }) rest)).kind ≡ false
chosen-between true true feed rest apart h = absurd (false≢true (sym (apart refl)))
chosen-between true false feed rest apart h = absurd (false≢true h)
chosen-between false true true rest apart h = refl
chosen-between false true false rest apart h = absurd (false≢true h)
chosen-between false false feed rest apart h = absurd (false≢true h)

from_cells-no_must : (profile : Profile) (side : Side) (x y : Cell) (right : List Cell)
    → ends_between x.class y.class ≡ false
    → is_must (from_cells profile (x ∷ side) (y ∷ right)).kind ≡ false
unfolding from_cells cell_rules
from_cells-no_must profile side x y right none =
    let between : (c : Bool) → not c ≡ false → c ≡ true = elim [ true ↦ λ _. refl | false ↦ λ h. sym h ] in
    (elim (ends_line x.class)
    as (λ v. ends_line x.class ≡ v → (v && not (CR x.class && LF y.class)) ≡ false
    → is_must (from_cells profile (x ∷ side) (y ∷ right)).kind ≡ false) [
      | true ↦ λ _ h.
          chosen-between (BK x.class) (CR x.class) (LF y.class) _ (BK-not_CR x.class)
          (between (CR x.class && LF y.class) h)
      | false ↦ λ e _.
          choose-never_must cell_rules (x ∷ side) (y ∷ right)
          (from_11 profile (units_before (x ∷ side)) (units (y ∷ right)))
          (cells-never_must x side y right e) (from_11-never_must profile _ _)
    ]) refl none

pub no_must_between : (profile : Profile) (left : List Cell) (x y : Cell) (right : List Cell)
    → ends_between x.class y.class ≡ false
    → is_must (verdict_between_in profile (left ++ x ∷ []) (y ∷ right)).kind ≡ false
no_must_between profile left x y right none =
    ap (λ v. is_must v.kind) (after-chain profile left x (y ∷ right))
    ∙ from_cells-no_must profile (reverse left) x y right none

pub not_must : (verdict : Verdict) → is_must verdict.kind ≡ false → verdict.kind ≢ Must
not_must verdict none same = false≢true (sym none ∙ ap is_must same)

pub only_must_between : (profile : Profile) (left : List Cell) (x y : Cell) (right : List Cell)
    → (verdict_between_in profile (left ++ x ∷ []) (y ∷ right)).kind ≡ Must → ends_between x.class y.class ≡ true
only_must_between profile left x y right must =
    true-unless (ends_between x.class y.class)
    (λ none. false≢true (sym (no_must_between profile left x y right none) ∙ ap is_must must))

-- the start and the end

pub start_of_text : (profile : Profile) (right : List Cell)
    → verdict_between_in profile [] right ≡ record { kind = No; rule = Lb2 }
unfolding from_cells cell_rules
start_of_text profile right = verdict_between-chain profile [] right

pub must_at_end : (profile : Profile) (left : List Cell) (x : Cell) → verdict_between_in profile (left ++ x ∷ []) []
    ≡ end_of_text
unfolding from_cells cell_rules
must_at_end profile left x = after-chain profile left x []

pub must_at_length : (profile : Profile) (cells : List Cell) → 0 < length cells
    → verdict_in profile cells (length cells) ≡ end_of_text
unfolding from_cells cell_rules
must_at_length profile [] some = absurd (omega arith)
must_at_length profile (cell ∷ cells) some =
    verdict_in-end profile (cell ∷ cells) ∙ ap (λ l. from_cells profile l []) (reverse-begins cell cells).2

-- Positions that are not held

-- are decided by the cell after them
pub settled_between : (profile : Profile) (left : List Cell) (cell : Cell) (a b : List Cell)
    → is_held profile left (cell ∷ a) ≡ false
    → verdict_between_in profile left (cell ∷ a) ≡ verdict_between_in profile left (cell ∷ b)
settled_between profile left cell a b free =
    let settled = sym (is_held-chain profile left cell a) ∙ free in
    verdict_between-chain profile left (cell ∷ a)
    ∙ from_cells-settled profile (reverse left) cell a settled
    ∙ sym (from_cells-settled profile (reverse left) cell b settled)
    ∙ sym (verdict_between-chain profile left (cell ∷ b))

-- what is no quotation mark comes after no held position
pub plain-not_held : (profile : Profile) (left : List Cell) (cell : Cell) (more : List Cell) → QU cell.class ≡ false
    → is_held profile left (cell ∷ more) ≡ false
unfolding is_held
plain-not_held First left cell more plain = refl
plain-not_held Second left cell more plain = rw plain

-- Before the end of a line

-- the next unit is that of the cell at the latest
first-until : (fresh : Bool) (m : List Cell) (x : Cell) (a b : List Cell) → mark x.class ≡ false
    → first (units_after fresh (m ++ x ∷ a)) ≡ first (units_after fresh (m ++ x ∷ b))
first-until fresh [] x a b no_mark = rw (no_mark, or-true fresh)
first-until fresh (c ∷ m) x a b no_mark =
    elim (fresh || none_of mark c.class)
    as (λ v. first (cond v (unit c ∷ units_after (hard c.class) (m ++ x ∷ a)) (units_after (hard c.class) (m ++ x ∷ a)))
    ≡ first (cond v (unit c ∷ units_after (hard c.class) (m ++ x ∷ b)) (units_after (hard c.class) (m ++ x ∷ b))))
    [ true ↦ refl | false ↦ first-until (hard c.class) m x a b no_mark ]

pub same_before : (profile : Profile) (left middle : List Cell) (x : Cell) (a b : List Cell) → ends_line x.class ≡ true
    → verdict_between_in profile left (middle ++ x ∷ a) ≡ verdict_between_in profile left (middle ++ x ∷ b)
same_before profile left [] x a b ends =
    settled_between profile left x a b (plain-not_held profile left x a (IsEnd-ends x.class ends).quotation_no)
same_before profile left (c ∷ middle) x a b ends =
    look_ahead_between_in profile left ((c ∷ middle) ++ x ∷ a) ((c ∷ middle) ++ x ∷ b) refl
    (first-until (hard c.class) middle x a b (IsEnd-ends x.class ends).mark_no)

pub same_before_at : (profile : Profile) (cells : List Cell) (x : Cell) (a b : List Cell) (k : ℕ)
    → ends_line x.class ≡ true → k ≤ length cells
    → verdict_in profile (cells ++ x ∷ a) k ≡ verdict_in profile (cells ++ x ∷ b) k
same_before_at profile cells x a b k ends within =
    let left = take k cells in
    let middle = drop k cells in
    let by = λ (more : List Cell). (
    ap (λ l. verdict_between_in profile l (drop k (cells ++ x ∷ more))) (take-append-le k cells (x ∷ more) within)
    ∙ ap (λ r. verdict_between_in profile left r) (drop-append-le k cells (x ∷ more) within)
    ) in
    by a ∙ same_before profile left middle x a b ends ∙ sym (by b)

-- Marks that join

-- what no hard class is
record NotHard (class : Class) : Type 0 where
  bk : BK class ≡ false
  cr : CR class ≡ false
  lf : LF class ≡ false
  nl : NL class ≡ false
  sp : SP class ≡ false
  zw : ZW class ≡ false

or-false : (a b : Bool) → (a || b) ≡ false → (a ≡ false) × (b ≡ false)
or-false true b h = absurd (false≢true (sym h))
or-false false b h = (refl, h)

NotHard-hard : (class : Class) → hard class ≡ false → NotHard class
NotHard-hard class none =
    let zw = or-false ((BK or CR or LF or NL or SP) class) (ZW class) none in
    let sp = or-false ((BK or CR or LF or NL) class) (SP class) zw.0 in
    let nl = or-false ((BK or CR or LF) class) (NL class) sp.0 in
    let lf = or-false ((BK or CR) class) (LF class) nl.0 in
    let cr = or-false (BK class) (CR class) lf.0 in
    record { bk = cr.0; cr = cr.1; lf = lf.1; nl = nl.1; sp = sp.1; zw = zw.1 }

NotHard-mark : (class : Class) → mark class ≡ true → NotHard class
unfolding is
NotHard-mark CombiningMark _ = record { bk = refl; cr = refl; lf = refl; nl = refl; sp = refl; zw = refl }
NotHard-mark ZWJ _ = record { bk = refl; cr = refl; lf = refl; nl = refl; sp = refl; zw = refl }
NotHard-mark _ h = absurd (false≢true h)

and-parts : (a b : Bool) → (not a && b) ≡ true → (a ≡ false) × (b ≡ true)
and-parts true b h = absurd (false≢true h)
and-parts false b h = (refl, h)

-- after ZWJ, or not
chosen-joined : (joiner : Bool) (rest : Verdict)
    → cond joiner (record { kind = No; rule = Lb8a }) (cond true (record { kind = No; rule = Lb9 }) rest)
    ≡ record { kind = No; rule = cond joiner Lb8a Lb9 }
chosen-joined true rest = refl
chosen-joined false rest = refl

from_cells-joined : (profile : Profile) (side : Side) (x y : Cell) (right : List Cell) → joins x.class y.class ≡ true
    → from_cells profile (x ∷ side) (y ∷ right) ≡ joined_after x.class
unfolding from_cells cell_rules before_spaces
from_cells-joined profile side x y right both =
    let parts = and-parts (hard x.class) (mark y.class) both in
    let before = NotHard-hard x.class parts.0 in
    let after = NotHard-mark y.class parts.1 in
    rw (
      before.bk,
      before.cr,
      before.lf,
      before.nl,
      before.sp,
      before.zw,
      after.bk,
      after.cr,
      after.lf,
      after.nl,
      after.sp,
      after.zw,
      parts.1,
    )
    (chosen-joined (isZWJ x.class) (from_11 profile (units_before (x ∷ side)) (units (y ∷ right))))

pub joined_between : (profile : Profile) (left : List Cell) (x y : Cell) (right : List Cell)
    → joins x.class y.class ≡ true
    → verdict_between_in profile (left ++ x ∷ []) (y ∷ right) ≡ joined_after x.class
joined_between profile left x y right both =
    after-chain profile left x (y ∷ right) ∙ from_cells-joined profile (reverse left) x y right both

pub mark-not_held : (profile : Profile) (left : List Cell) (cell : Cell) (more : List Cell) → mark cell.class ≡ true
    → is_held profile left (cell ∷ more) ≡ false
mark-not_held profile left cell more is = plain-not_held profile left cell more (mark-not_QU cell.class is)

-- what joins is what heads no unit
heads-not : (b c : Bool) → (b || not c) ≡ not (not b && c)
heads-not true c = refl
heads-not false c = refl

pub heads-joins : (left : List Cell) (x y : Cell) → heads (reverse (left ++ x ∷ [])) y ≡ not (joins x.class y.class)
heads-joins left x y = ap (λ l. heads l y) (reverse-snoc left x) ∙ heads-not (hard x.class) (mark y.class)

joins-heads : (b c : Bool) → (b || not c) ≡ false → (not b && c) ≡ true
joins-heads true c h = absurd (false≢true (sym h))
joins-heads false true h = refl
joins-heads false false h = absurd (false≢true (sym h))

from_cells-joins : (profile : Profile) (side : Side) (cell : Cell) (more : List Cell) → heads side cell ≡ false
    → (from_cells profile side (cell ∷ more)).kind ≡ No
unfolding is
from_cells-joins profile [] cell more none = absurd (false≢true (sym none))
from_cells-joins profile (x ∷ side) cell more none =
    ap (λ v. v.kind) (from_cells-joined profile side x cell more (joins-heads (hard x.class) (mark cell.class) none))

pub joins_no_break : (profile : Profile) (left : List Cell) (cell : Cell) (more : List Cell)
    → heads (reverse left) cell ≡ false
    → (verdict_between_in profile left (cell ∷ more)).kind ≡ No
joins_no_break profile left cell more none =
    ap (λ v. v.kind) (verdict_between-chain profile left (cell ∷ more))
    ∙ from_cells-joins profile (reverse left) cell more none

headless-mark : (b c : Bool) → (b || not c) ≡ false → c ≡ true
headless-mark true c h = absurd (false≢true (sym h))
headless-mark false true h = refl
headless-mark false false h = absurd (false≢true (sym h))

pub joins-not_held : (profile : Profile) (left : List Cell) (cell : Cell) (more : List Cell)
    → heads (reverse left) cell ≡ false
    → is_held profile left (cell ∷ more) ≡ false
joins-not_held profile left cell more none =
    mark-not_held profile left cell more (headless-mark (hard (nearest (reverse left)).class) (mark cell.class) none)
