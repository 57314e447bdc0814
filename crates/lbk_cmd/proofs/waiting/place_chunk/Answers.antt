use Rattle.std.proofs.Common.{◌≡◌, ◌++◌, ◌∷◌, [], decimal, ap, ap₂, subst, sym, ◌∙◌, rules}
use Rattle.lbk_rules.specs.Labels.{label_of}
use Rattle.lbk_rules.proofs.ShownLemmas.{kind-back, rule-back}
use Rattle.lbk_passage.specs.Placing.{Placed}
use Rattle.lbk_passage.specs.Lines.{kind_name}
use Rattle.lbk_passage.proofs.Places.{Placed-then}
use Rattle.lbk_cmd.proofs.ChunkLines.{parts-joined}
use Rattle.lbk_cmd.proofs.waiting.place_chunk.Goals as goal

pub returns : goal.returns
returns c =
    let chunk = c.args.chunk.now in
    let start = decimal chunk.start in
    let end = decimal chunk.end in
    let words = decimal chunk.words in
    let label : c.as_bytes.result.now ≡ label_of chunk.rule = c.as_bytes.ensures.value ∙ c.label.ensures in
    record {
      placed = subst (λ t. Placed c.args.line.now c.place_byte.new.buf c.args.at t c.place_byte.result)
          (parts-joined start end words (kind_name chunk.kind) c.as_bytes.result.now
          ∙ ap₂ (λ k r. 67 ∷ 32 ∷ ((start ++ 32 ∷ end) ++ (32 ∷ (words ++ (32 ∷ (k ++ (32 ∷ (r ++ 10 ∷ []))))))))
          (ap kind_name (sym (kind-back chunk.kind))) (label ∙ ap label_of (sym (rule-back chunk.rule))))
          (Placed-then c.place_front-next.ensures (Placed-then c.place_number-next.ensures.placed (Placed-then c.place_byte-next.ensures
          (Placed-then c.place_number-next-2.ensures.placed (Placed-then c.place_byte-next-2.ensures (Placed-then c.place_number-next-3.ensures.placed
          (Placed-then c.place_kind-next.ensures.placed (Placed-then c.place_few-next.ensures c.place_byte.ensures))))))));
      short = search rules;
    }
