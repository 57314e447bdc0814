use Rattle.std.proofs.Common.{◌++◌, ◌∷◌, [], arith, ◌∙◌, ap, sym, take}
use Rattle.std.specs.List.{list_any}
use Rattle.std.proofs.lemmas.List.{take_more}
use Rattle.lbk_ucd.specs.Rows.{holds}
use Rattle.lbk_ucd.proofs.OverlayLemmas.{marked_more}
use Rattle.lbk_ucd.proofs.taken.mark_rows.Goals as goal

pub loop-row-preserved : goal.loop-row-preserved
loop-row-preserved g c =
    let to = c.loop-row.invariant in
    let rows = c.args.ranges.now.rows.now in
    let i = c.loop-row.row-index in
    let row = c.row-item.result in
    record {
      room = omega (arith, c.mark_all.auto.words, to.room);
      marked = λ code.
          marked_more (take i rows) row c.loop-row.words c.mark_all.new.words to.marked c.mark_all.ensures.inside c.mark_all.ensures.outside code
          ∙ sym (ap (list_any (holds code)) (take_more rows i row c.loop-row-test.true ∙ ap (λ last. take i rows ++ last ∷ []) (sym c.row-item.is)));
    }
