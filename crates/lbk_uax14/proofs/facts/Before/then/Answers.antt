-- Each fact by what is known of the units and by the unit that follows.
use Rattle.std.proofs.Common.{◌≡◌, cond, ◌&&◌, not, sym, ap, ◌∙◌}
use Rattle.lbk_uax14.specs.Asked.{asked_before_spaces}
use Rattle.lbk_uax14.specs.Classes.{◌or◌, BA, HL, HY, RI, SP, opens_after}
use Rattle.lbk_uax14.specs.Sides.{opening}
use Rattle.lbk_uax14.proofs.FactsLemmas.{facts-then}
use Rattle.lbk_uax14.proofs.facts.Before.then.Goals as goal
use Rattle.lbk_uax14.proofs.facts.Before.then.Goals.{then-space, else-space, then-space-2, else-space-2}
use Rattle.lbk_uax14.proofs.facts.Before.then.Goals.{then-is_opening_mark, else-is_opening_mark, then-is_hyphen}
use Rattle.lbk_uax14.proofs.facts.Before.then.Goals.{else-is_hyphen, then-indicator, else-indicator}

pub returns : goal.returns
returns c = λ side e.
    let unit = c.args.unit in
    let before = c.args.self in
    let by_space = sym c.is-space.ensures in
    let by_mark = sym c.is_opening_mark.ensures in
    let by_hyphen = sym c.is_hyphen.ensures in
    let by_indicator = sym c.is-indicator.ensures in
    let spaces : c.if-space.result ≡ cond (SP unit.class) before.before_spaces (asked_before_spaces unit.class) =
    elim c.if-space.branch [
      | then-space w ↦ w.result-is ∙ ap (λ v. cond v before.before_spaces (asked_before_spaces unit.class))
          (sym (by_space ∙ w.if-space.true))
      | else-space w ↦
          w.result-is ∙ w.asked_before_spaces.ensures
          ∙ ap (λ v. cond v before.before_spaces (asked_before_spaces unit.class)) (sym (by_space ∙ w.if-space.false))
    ] in
    let hebrew : c.if-is_hyphen.result ≡ ((HY or BA) unit.class && HL before.last.class) =
    elim c.if-is_hyphen.branch [
      | then-is_hyphen w ↦ w.result-is ∙ w.is.ensures
          ∙ ap (λ v. v && HL before.last.class) (sym (by_hyphen ∙ w.if-is_hyphen.true))
      | else-is_hyphen w ↦ w.result-is ∙ w.if-is_hyphen.false
          ∙ ap (λ v. v && HL before.last.class) (sym (by_hyphen ∙ w.if-is_hyphen.false))
    ] in
    let indicators : c.if-indicator.result ≡ (RI unit.class && not before.odd_indicators) =
    elim c.if-indicator.branch [
      | then-indicator w ↦ w.result-is ∙ ap (λ v. v && not before.odd_indicators)
          (sym (by_indicator ∙ w.if-indicator.true))
      | else-indicator w ↦ w.result-is ∙ w.if-indicator.false
          ∙ ap (λ v. v && not before.odd_indicators) (sym (by_indicator ∙ w.if-indicator.false))
    ] in
    let opens : c.if-is_opening_mark.opens ≡ (opening unit && opens_after before.last.class) =
    elim c.if-is_opening_mark.branch [
      | then-is_opening_mark w ↦
          w.opens-is ∙ w.opens_after-opens.ensures
          ∙ ap (λ v. v && opens_after before.last.class) (sym (by_mark ∙ w.if-is_opening_mark.true))
      | else-is_opening_mark w ↦
          w.opens-is ∙ w.if-is_opening_mark.false ∙ ap (λ v. v && opens_after before.last.class)
          (sym (by_mark ∙ w.if-is_opening_mark.false))
    ] in
    let quotation : c.if-space-2.result ≡ cond (SP unit.class) before.opens_quotation
    (opening unit && opens_after before.last.class) =
    elim c.if-space-2.branch [
      | then-space-2 w ↦
          w.result-is ∙ ap (λ v. cond v before.opens_quotation (opening unit && opens_after before.last.class))
          (sym (by_space ∙ w.if-space-2.true))
      | else-space-2 w ↦
          w.result-is ∙ opens
          ∙ ap (λ v. cond v before.opens_quotation (opening unit && opens_after before.last.class))
          (sym (by_space ∙ w.if-space-2.false))
    ] in
    facts-then unit side before c.asked_of_unit.result c.if-space.result c.if-is_hyphen.result c.if-indicator.result
    c.if-space-2.result
    e c.asked_of_unit.ensures spaces hebrew indicators quotation
