-- What a late machine waits for.
use Rattle.std.proofs.Common.{◌≡◌, ℕ, Bool, true, false, cond, Option, Some, None, List, [], ◌∷◌, ◌++◌, length, reverse}
use Rattle.std.proofs.Common.{append_assoc, refl, sym, ap, subst, ◌∙◌}
use Rattle.std.specs.Option.{option_map}
use Rattle.std.proofs.lemmas.List.{reverse-append, reverse-reverse, length-reverse}
use Rattle.lbk_uax14.specs.declared.cells.Cell.{Cell}
use Rattle.lbk_uax14.specs.declared.facts.Left.{Left}
use Rattle.lbk_uax14.specs.declared.late_machine.Held.{Held}
use Rattle.lbk_values.specs.declared.profile.Profile.{Profile}
use Rattle.lbk_values.specs.declared.profile.Profile.TheVariants.{First, Second}
use Rattle.lbk_uax14.specs.declared.verdicts.Verdict.{Verdict}
use Rattle.lbk_uax14.specs.Classes.{hard}
use Rattle.lbk_uax14.specs.Sides.{Side}
use Rattle.lbk_uax14.specs.Units.{unit, units_after, heads, nearest}
use Rattle.lbk_uax14.specs.Facts.{facts, closes_in}
use Rattle.lbk_uax14.specs.Chain.{from_cells}
use Rattle.lbk_uax14.specs.Held.{is_15b, is_held, unanswered_before, answer_at, now_at}
use Rattle.lbk_uax14.specs.LateFits.{waiting}
use Rattle.lbk_uax14.specs.Verdict.{verdict_in, verdict_between_in}
use Rattle.lbk_uax14.proofs.ChainLemmas.{verdict_between-chain}
use Rattle.lbk_uax14.proofs.HeldLemmas.{from_cells-first, from_cells-settled, is_held-chain}
use Rattle.lbk_uax14.proofs.MachineLemmas.{verdict_in-chain}

reverse-cons : (cell : Cell) (side : Side) → reverse (cell ∷ side) ≡ reverse side ++ cell ∷ []
reverse-cons cell side = reverse-append (cell ∷ []) side

-- in the first profile nothing waits
waiting-first : (side : Side) → waiting First side ≡ None
unfolding waiting
waiting-first [] = refl
waiting-first (cell ∷ side) =
    rw (from_cells-first side (cell ∷ []))
    (elim (heads side cell) as (λ v. cond v None (waiting First side) ≡ None)
    [ true ↦ refl | false ↦ waiting-first side ])

-- one more cell
pub waiting-step : (profile : Profile) (side : Side) (cell : Cell) (holds begins : Bool) (held : Option Held)
    (position : ℕ) (left : Left)
    → is_15b (from_cells profile side (cell ∷ [])).rule ≡ holds → heads side cell ≡ begins
    → position ≡ length side → left ≡ facts side → held ≡ waiting profile side
    → cond holds (Some (record { position = position; left = left; quotation = cell })) (cond begins None held)
    ≡ waiting profile (cell ∷ side)
unfolding waiting
waiting-step profile side cell holds begins held position left holds_same begins_same position_same left_same
    held_same =
    rw (sym holds_same, sym begins_same, position_same, left_same, held_same)

-- what waits is the held position that has no answer
held-here : (profile : Profile) (side : Side) (cell : Cell)
    → is_held profile (reverse side) (cell ∷ []) ≡ is_15b (from_cells profile side (cell ∷ [])).rule
held-here profile side cell =
    is_held-chain profile (reverse side) cell []
    ∙ ap (λ l. is_15b (from_cells profile l (cell ∷ [])).rule) (reverse-reverse side)

abbrev pub position_of : Option Held → Option ℕ
position_of held = option_map (λ h. h.position) held

pub unanswered-waiting : (profile : Profile) (side : Side)
    → unanswered_before profile side ≡ position_of (waiting profile side)
unfolding unanswered_before waiting
unanswered-waiting profile [] = refl
unanswered-waiting profile (cell ∷ side) =
    ap (λ v. cond v (Some (length side)) (cond (heads side cell) None (unanswered_before profile side)))
    (held-here profile side cell)
    ∙ (elim (is_15b (from_cells profile side (cell ∷ [])).rule)
    as (λ v. cond v (Some (length side)) (cond (heads side cell) None (unanswered_before profile side))
    ≡ position_of (cond v (Some (record { position = length side; left = facts side; quotation = cell }))
    (cond (heads side cell) None (waiting profile side)))) [
      | true ↦ refl
      | false ↦
          elim (heads side cell)
          as (λ w. cond w None (unanswered_before profile side) ≡ position_of (cond w None (waiting profile side)))
          [ true ↦ refl | false ↦ unanswered-waiting profile side ]
    ])

-- where a position waits, only marks came after its quotation mark
pub record Waits (profile : Profile) (side : Side) (held : Held) : Type 0 where
  pub far : Side
  pub marks : List Cell
  pub cells_same : reverse side ≡ reverse far ++ held.quotation ∷ marks
  pub position_same : held.position ≡ length far
  pub left_same : facts far ≡ held.left
  pub held_there : is_15b (from_cells profile far (held.quotation ∷ [])).rule ≡ true
  pub still_open : (rest : List Cell)
      → units_after (hard held.quotation.class) (marks ++ rest) ≡ units_after (hard (nearest side).class) rest

Waits-here : (profile : Profile) (cell : Cell) (side : Side) → is_15b (from_cells profile side (cell ∷ [])).rule ≡ true
    → Waits profile (cell ∷ side) (record { position = length side; left = facts side; quotation = cell })
Waits-here profile cell side here = record {
  far = side;
  marks = [];
  cells_same = reverse-cons cell side;
  position_same = refl;
  left_same = refl;
  held_there = here;
  still_open = λ rest. refl;
}

Waits-more : (profile : Profile) (cell : Cell) (side : Side) (held : Held) → heads side cell ≡ false
    → Waits profile side held
    → Waits profile (cell ∷ side) held
Waits-more profile cell side held joins w = record {
  far = w.far;
  marks = w.marks ++ cell ∷ [];
  cells_same =
      reverse-cons cell side ∙ ap (λ l. l ++ cell ∷ []) w.cells_same
      ∙ append_assoc (reverse w.far) (held.quotation ∷ w.marks) (cell ∷ []);
  position_same = w.position_same;
  left_same = w.left_same;
  held_there = w.held_there;
  still_open = λ rest.
      ap (λ l. units_after (hard held.quotation.class) l) (append_assoc w.marks (cell ∷ []) rest)
      ∙ w.still_open (cell ∷ rest)
      ∙ ap (λ v. cond v (unit cell ∷ units_after (hard cell.class) rest) (units_after (hard cell.class) rest)) joins;
}

pub Waits-waiting : (profile : Profile) (side : Side) (held : Held) → waiting profile side ≡ Some held
    → Waits profile side held
unfolding waiting
Waits-waiting profile [] held = λ e. (let no : ⊥ = cc in absurd no)
Waits-waiting profile (cell ∷ side) held =
    (elim (is_15b (from_cells profile side (cell ∷ [])).rule)
    as (λ v. is_15b (from_cells profile side (cell ∷ [])).rule ≡ v
    → cond v (Some (record { position = length side; left = facts side; quotation = cell }))
    (cond (heads side cell) None (waiting profile side)) ≡ Some held
    → Waits profile (cell ∷ side) held) [
      | true ↦ λ there e.
          let here : Held = record { position = length side; left = facts side; quotation = cell } in
          let same : here ≡ held = cc in
          let P : Held → Type 0 = λ h. Waits profile (cell ∷ side) h in
          subst P same (Waits-here profile cell side there)
      | false ↦ λ _.
          (elim (heads side cell)
          as (λ w. heads side cell ≡ w → cond w None (waiting profile side) ≡ Some held
          → Waits profile (cell ∷ side) held) [
            | true ↦ λ _ e. (let no : ⊥ = cc in absurd no)
            | false ↦ λ joins e. Waits-more profile cell side held joins (Waits-waiting profile side held e)
          ]) refl
    ]) refl

-- the answer that the machine gives is the verdict of the position that waits
pub answer-waiting : (profile : Profile) (cells more : List Cell) (held : Held) (closes : Bool) (verdict : Verdict)
    → waiting profile (reverse cells) ≡ Some held
    → closes_in Second (units_after (hard (nearest (reverse cells)).class) more) ≡ closes
    → ((side after : Side) → facts side ≡ held.left
    → closes_in profile (units_after (hard held.quotation.class) after) ≡ closes
    → verdict ≡ from_cells profile side (held.quotation ∷ after))
    → Some (held.position, verdict) ≡ answer_at profile cells more
answer-waiting First cells more held closes verdict e closed decides =
    let none = waiting-first (reverse cells) in
    let no : ⊥ = cc in absurd no
answer-waiting Second cells more held closes verdict e closed decides =
    let w = Waits-waiting Second (reverse cells) held e in
    let q = held.quotation in
    let after = w.marks ++ more in
    let decided = decides w.far after w.left_same (ap (λ u. closes_in Second u) (w.still_open more) ∙ closed) in
    let split : cells ++ more ≡ reverse w.far ++ q ∷ after =
    ap (λ l. l ++ more) (sym (reverse-reverse cells) ∙ w.cells_same)
    ∙ append_assoc (reverse w.far) (q ∷ w.marks) more in
    let place : held.position ≡ length (reverse w.far) = w.position_same ∙ sym (length-reverse w.far) in
    let told : verdict_in Second (cells ++ more) held.position ≡ from_cells Second w.far (q ∷ after) =
    ap (λ l. verdict_in Second l held.position) split
    ∙ ap (λ k. verdict_in Second (reverse w.far ++ q ∷ after) k) place
    ∙ verdict_in-chain Second (reverse w.far) (q ∷ after)
    ∙ ap (λ l. from_cells Second l (q ∷ after)) (reverse-reverse w.far) in
    ap (λ v. Some (held.position, v)) (decided ∙ sym told)
    ∙ sym (ap (λ o. option_map (λ p. (p, verdict_in Second (cells ++ more) p)) o)
    (unanswered-waiting Second (reverse cells) ∙ ap position_of e))

pub answer-none : (profile : Profile) (cells more : List Cell) → waiting profile (reverse cells) ≡ None
    → None ≡ answer_at profile cells more
answer-none profile cells more e =
    sym (ap (λ o. option_map (λ p. (p, verdict_in profile (cells ++ more) p)) o)
    (unanswered-waiting profile (reverse cells) ∙ ap position_of e))

-- the verdict so far is given at once, unless the position is held
pub now-settled : (profile : Profile) (cells : List Cell) (cell : Cell) (more : List Cell) (verdict : Verdict)
    → verdict ≡ from_cells profile (reverse cells) (cell ∷ [])
    → cond (is_15b verdict.rule) None (Some verdict) ≡ now_at profile cells (cell ∷ more)
now-settled profile cells cell more verdict so_far =
    let far = from_cells profile (reverse cells) (cell ∷ []) in
    let whole = verdict_between_in profile cells (cell ∷ more) in
    ap (λ v. cond (is_15b v.rule) None (Some v)) so_far
    ∙ (elim (is_15b far.rule)
    as (λ v. is_15b far.rule ≡ v → cond v None (Some far) ≡ cond v None (Some whole)) [
      | true ↦ λ _. refl
      | false ↦ λ settled.
          ap Some (sym (from_cells-settled profile (reverse cells) cell more settled)
          ∙ sym (verdict_between-chain profile cells (cell ∷ more)))
    ]) refl
    ∙ ap (λ v. cond v None (Some whole)) (sym (is_held-chain profile cells cell more))
