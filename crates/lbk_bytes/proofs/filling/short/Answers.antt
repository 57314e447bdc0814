use Rattle.std.proofs.Common.{List, length, refl, sym, subst, ◌∙◌, arith}
use Rattle.lbk_bytes.specs.declared.fill_state.FillState.{FillState}
use Rattle.lbk_bytes.specs.declared.raw_break.RawBreak.{RawBreak}
use Rattle.lbk_bytes.specs.Steps.{FillsIn}
use Rattle.lbk_bytes.proofs.StepLemmas.{told-as}
use Rattle.lbk_bytes.proofs.filling.short.Goals.{After-scalars-arg-1, else-this-ne0, then-this-ne0+then-left-ge-LEAST+then-are_near}
use Rattle.lbk_bytes.proofs.filling.short.Given.{Over}
use Rattle.lbk_bytes.proofs.filling.short.Goals as goal

-- so far a block was taken, or nothing
begun : (g : Over) (c : After-scalars-arg-1 g)
    → FillsIn c.args.profile (g.K.KindSource.kinds_of c.args.table.now) (g.K.KindSource.pairs_of c.args.table.now) c.args.text.now c.args.out.now c.args.start
    c.if-this-ne0.out c.if-this-ne0.here
begun g c =
    let profile = c.args.profile in
    let steps = c.rows_of-steps in
    let kinds = g.K.KindSource.kinds_of c.args.table.now in
    let pairs = g.K.KindSource.pairs_of c.args.table.now in
    let fills = λ (out : List RawBreak) (s : FillState). FillsIn profile kinds pairs c.args.text.now c.args.out.now c.args.start out s in
    elim c.if-this-ne0.branch [
      | then-this-ne0+then-left-ge-LEAST+then-are_near w ↦
          let blocks = w.blocks-then-are_near.ensures in
          subst (λ (out : List RawBreak). fills out c.if-this-ne0.here) (sym w.out-is)
          (subst (fills w.blocks-then-are_near.new.out) (sym (w.here-is ∙ w.copied-here.ensures))
          (record {
            within = blocks.within;
            onward = blocks.onward;
            in_order = blocks.in_order;
            reached = λ cell more all flat start.
                blocks.reached profile cell more all steps.ensures flat.kinds
                (told-as profile kinds pairs pairs cell steps.result.now flat refl steps.ensures) start;
          }))
      | else-this-ne0 w ↦
          subst (λ (out : List RawBreak). fills out c.if-this-ne0.here) (sym w.out-is)
          (subst (fills c.args.out.now) (sym w.here-is)
          (record { within = c.requires; onward = (omega arith, omega arith); in_order = λ from order. order; reached = λ cell more all flat start. start }))
    ]

pub scalars-requires-clause-steps : goal.scalars-requires-clause-steps
scalars-requires-clause-steps g c =
    let here = begun g c in
    (omega (arith, here.within.0), here.within.1, here.within.2, omega arith, (c.args.profile, c.rows_of-steps.ensures))

pub returns : goal.returns
returns g c =
    let first = begun g (goal.at.returns g c).After-scalars-arg-1 in
    let here = c.scalars.ensures in
    record {
      within = (omega (arith, first.within.0, here.within.0), here.within.1, here.within.2);
      onward = (omega (arith, first.onward.0, here.onward.0), omega (arith, first.onward.1, here.onward.1));
      in_order = λ from order. here.in_order from (first.in_order from order);
      reached = λ cell more all flat start.
          here.reached c.args.profile cell more all (length c.args.text.now) c.rows_of-steps.ensures flat.kinds (omega arith) (first.reached cell more all flat start);
    }
