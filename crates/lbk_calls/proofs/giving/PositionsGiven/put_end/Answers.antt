use Rattle.std.proofs.Common.{true, false, cond, [], ◌∷◌, ◌++◌, append-nil, ap, subst, sym, ◌∙◌, refl, arith}
use Rattle.lbk_rules.specs.Breaks.{break_by, is_no}
use Rattle.lbk_rules.specs.declared.Kind.TheVariants.{Must, No}
use Rattle.lbk_rules.specs.declared.Rule.TheVariants.{Lb2, Lb3}
use Rattle.lbk_rules.specs.Rows.{IsShown, verdict_shown}
use Rattle.lbk_bytes.specs.Reached.{position_end_in}
use Rattle.lbk_bytes.specs.Shown.{given_in}
use Rattle.lbk_bytes.proofs.OrderLemmas.{AreInOrder-wider}
use Rattle.lbk_units.proofs.PositionLemmas.{not-back, put-end, put-start}
use Rattle.lbk_calls.proofs.giving.PositionsGiven.put_end.Goals as goal
use Rattle.lbk_calls.proofs.giving.PositionsGiven.put_end.Goals.{then-row-eq0, else-row-eq0}

pub put_position-requires-2-clause-shown : goal.put_position-requires-2-clause-shown
put_position-requires-2-clause-shown c = elim c.if-row-eq0.branch [
  | then-row-eq0 w ↦ subst IsShown (sym w.last-is) (record { kind = No; rule = Lb2 }, refl)
  | else-row-eq0 w ↦ subst IsShown (sym w.last-is) (record { kind = Must; rule = Lb3 }, refl)
]

pub returns-then-shows_break : goal.returns-then-shows_break
returns-then-shows_break c = record {
  within = let more = c.put_position.ensures.more in let few = c.requires.0 in (omega (arith, more, few), omega (arith, more), omega (arith, more));
  in_order = c.put_position.ensures.in_order;
  front = λ profile cell taken known some.
      let verdict = verdict_shown c.end_shown-shown.result in
      let given = given_in c.args.out.now c.args.count in
      let is_break = not-back (is_no verdict.kind) false (sym c.shows_break.ensures ∙ c.if-shows_break.true) in
      c.put_position.ensures.front
      ∙ ap (λ b. given ++ cond b [] (break_by c.args.at verdict ∷ [])) (sym is_break)
      ∙ ap (λ l. given ++ l) (c.end_shown-shown.ensures.ends profile cell taken c.args.at known some)
      ∙ ap (λ b. given ++ position_end_in b profile cell taken c.args.at) (sym c.if-goes_on.true);
}

pub returns-then-goes_on : goal.returns-then-goes_on
returns-then-goes_on c = record {
  within = (omega (arith, c.requires.0), omega arith, omega arith);
  in_order = λ from to below order. AreInOrder-wider c.args.out.now c.args.count from c.args.at to (omega arith) order.1;
  front = λ profile cell taken known some.
      let verdict = verdict_shown c.end_shown-shown.result in
      let given = given_in c.args.out.now c.args.count in
      let none = not-back (is_no verdict.kind) true (sym c.shows_break.ensures ∙ c.if-shows_break.false) in
      sym (append-nil given)
      ∙ ap (λ b. given ++ cond b [] (break_by c.args.at verdict ∷ [])) (sym none)
      ∙ ap (λ l. given ++ l) (c.end_shown-shown.ensures.ends profile cell taken c.args.at known some)
      ∙ ap (λ b. given ++ position_end_in b profile cell taken c.args.at) (sym c.if-goes_on.true);
}

pub returns : goal.returns
returns c = record {
  within = let more = c.put_position-2.ensures.more in let few = c.requires.0 in (omega (arith, more, few), omega (arith, more), omega (arith, more));
  in_order = c.put_position-2.ensures.in_order;
  front = λ profile cell taken known some.
      let given = given_in c.args.out.now c.args.count in
      let put = c.put_position-2 in
      elim c.if-row-eq0.branch [
        | then-row-eq0 w ↦ put-start profile cell taken given (given_in put.new.out put.result) c.args.at c.args.row c.if-row-eq0.last known (omega arith) w.last-is put.ensures.front
        | else-row-eq0 w ↦ put-end profile cell given (given_in put.new.out put.result) c.args.at c.if-row-eq0.last taken (some (omega arith)) w.last-is put.ensures.front
      ]
      ∙ ap (λ b. given ++ position_end_in b profile cell taken c.args.at) (sym c.if-goes_on.false);
}
