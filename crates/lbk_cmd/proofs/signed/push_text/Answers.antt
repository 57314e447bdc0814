use Rattle.std.proofs.Common.{◌≤◌, ◌++◌, [], drop, length, take, append-nil, refl, sym, ap, subst, ◌∙◌, arith}
use Rattle.std.proofs.lemmas.List.{take_all, take-append-drop}
use Rattle.std.proofs.lemmas.Result.{on_ok_weaker}
use Rattle.lbk_bytes.specs.Shown.{given_in}
use Rattle.lbk_passage.proofs.Places.{front_then}
use Rattle.lbk_cmd.specs.Signing.{IsCut, signed_from}
use Rattle.lbk_cmd.proofs.Placing.{front-breaks}
use Rattle.lbk_cmd.proofs.Signing.{cut-front}
use Rattle.lbk_cmd.proofs.signed.push_text.Goals as goal

pub loop-done-init : goal.loop-done-init
loop-done-init g c = record { put = refl; cut = c.requires; kept = take_all (length c.args.out.now.items) c.args.out.now.items (omega arith) }

pub push_block-requires-clause-breaks : goal.push_block-requires-clause-breaks
push_block-requires-clause-breaks g c = front-breaks c.fill-count.new.block c.fill-count.result c.fill-count.ensures.breaks

pub push_block-requires-clause-cut : goal.push_block-requires-clause-cut
push_block-requires-clause-cut g c =
    let l = c.loop-done in
    let count = c.fill-count.result in
    subst (λ t. IsCut l.done (length t) (given_in c.fill-count.new.block count)) (sym c.as_bytes-bytes.ensures.value)
    (subst (IsCut l.done (length c.args.text.now)) (sym c.fill-count.ensures.front)
    (cut-front l.done (length c.args.text.now) (take count l.breaks) (drop count l.breaks)
    (subst (IsCut l.done (length c.args.text.now)) (sym (take-append-drop count l.breaks)) l.invariant.cut)))

pub push_rest-requires : goal.push_rest-requires
push_rest-requires g c =
    let l = c.loop-done in
    let count = c.fill-count.result in
    let all : length l.breaks ≤ count = omega (arith, c.fill-count.ensures.count, c.if-count-lt-BLOCK.true) in
    let whole = append-nil (given_in c.fill-count.new.block count) ∙ c.fill-count.ensures.front ∙ take_all count l.breaks all in
    c.in_ok-done.ensures.cut []
    (subst (λ t. IsCut l.done (length t) (given_in c.fill-count.new.block count ++ [])) (sym c.as_bytes-bytes.ensures.value)
    (subst (IsCut l.done (length c.args.text.now)) (sym whole) l.invariant.cut))

pub returns-then-count-lt-BLOCK : goal.returns-then-count-lt-BLOCK
returns-then-count-lt-BLOCK g c =
    let l = c.loop-done in
    let count = c.fill-count.result in
    let all : length l.breaks ≤ count = omega (arith, c.fill-count.ensures.count, c.if-count-lt-BLOCK.true) in
    let whole = append-nil (given_in c.fill-count.new.block count) ∙ c.fill-count.ensures.front ∙ take_all count l.breaks all in
    record {
      all = on_ok_weaker c.push_rest.result
          (λ is. is ∙ c.in_ok-done.ensures.put []
          ∙ ap (λ bs. l.out.items ++ signed_from c.args.mark.now c.as_bytes-bytes.result.now l.done bs) whole
          ∙ ap (λ t. l.out.items ++ signed_from c.args.mark.now t l.done l.breaks) c.as_bytes-bytes.ensures.value
          ∙ l.invariant.put)
          c.push_rest.ensures.all;
      kept = front_then c.args.out.now.items c.push_block.new.out.items _
          (front_then c.args.out.now.items l.out.items c.push_block.new.out.items l.invariant.kept c.push_block.ensures.kept) c.push_rest.ensures.kept;
    }
