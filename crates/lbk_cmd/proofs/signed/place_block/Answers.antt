use Rattle.std.proofs.Common.{◌≡◌, ◌+◌, ◌-◌, ◌≤◌, ◌++◌, append_assoc, drop, get_or, length, map, take, sym, ap, ◌∙◌, arith}
use Rattle.std.specs.Prelude.{slice_range}
use Rattle.std.proofs.lemmas.List.{length-drop, length-take, length-take-le, take-take}
use Rattle.lbk_bytes.specs.Order.{no_break}
use Rattle.lbk_bytes.specs.Shown.{shown}
use Rattle.lbk_passage.proofs.Places.{Placed-then}
use Rattle.lbk_cmd.specs.Mark.{sign}
use Rattle.lbk_cmd.specs.Signing.{signed_from}
use Rattle.lbk_cmd.proofs.Placing.{cut-at, cut-on, signed-at}
use Rattle.lbk_cmd.proofs.signed.place_block.Goals as goal

pub overflow_sub-one : goal.overflow_sub-one
overflow_sub-one c =
    let l = c.loop-put in
    (cut-at c.args.block.now l.put.next c.loop-put-test.true (c.requires.breaks l.put.next c.loop-put-test.true) l.put.done (length c.args.text.now) l.invariant.cut).0

pub overflow_add-put : goal.overflow_add-put
overflow_add-put c =
    let l = c.loop-put in
    let cut = cut-at c.args.block.now l.put.next c.loop-put-test.true (c.requires.breaks l.put.next c.loop-put-test.true) l.put.done (length c.args.text.now) l.invariant.cut in
    omega (arith, cut.0, cut.1, l.invariant.within, c.type_inv.text)

pub place_piece-behind-requires-clause-text : goal.place_piece-behind-requires-clause-text
place_piece-behind-requires-clause-text c =
    let l = c.loop-put in
    let cut = cut-at c.args.block.now l.put.next c.loop-put-test.true (c.requires.breaks l.put.next c.loop-put-test.true) l.put.done (length c.args.text.now) l.invariant.cut in
    (cut.0, cut.1)

pub loop-put-preserved : goal.loop-put-preserved
loop-put-preserved c =
    let l = c.loop-put in
    let i = l.put.next in
    let text = c.args.text.now in
    let mark = c.args.mark.now in
    let here = c.loop-put-test.true in
    let known = c.requires.breaks i here in
    let cut = cut-at c.args.block.now i here known l.put.done (length text) l.invariant.cut in
    let end = (get_or c.args.block.now i no_break).at in
    let piece = slice_range text l.put.done end in
    let long : length piece ≡ end - l.put.done =
    length-take-le (end - l.put.done) (drop l.put.done text) (omega (arith, length-drop l.put.done text, cut.0, cut.1)) in
    let n = c.sign_len.result in
    let few : n ≤ length mark = c.sign_len.ensures.few in
    let sign_is : take n c.sign_bytes-sign.result ≡ sign mark known.0.kind =
    sym (take-take n (length mark) c.sign_bytes-sign.result few) ∙ ap (take n) c.sign_bytes-sign.ensures ∙ c.sign_len.ensures.sign known.0 known.1 in
    let placed = Placed-then c.place_piece-behind.ensures c.place_front.ensures in
    record {
      within = (omega (arith, l.invariant.within), omega (arith, here), omega (arith, long, c.place_piece-behind.ensures.moved, c.place_front.ensures.moved, length-take n c.sign_bytes-sign.result, c.if-put-one.false, few, c.if-mark-gt-SIGN.false));
      cut = cut.2;
      put = λ more.
          let rest = signed_from mark text end (drop (i + 1) (map shown c.args.block.now) ++ more) in
          let before = take l.put.len l.part in
          ap (λ t. t ++ rest) placed.bytes
          ∙ append_assoc before (piece ++ take n c.sign_bytes-sign.result) rest
          ∙ ap (λ t. before ++ t) (append_assoc piece (take n c.sign_bytes-sign.result) rest)
          ∙ ap (λ t. before ++ (piece ++ (t ++ rest))) sign_is
          ∙ ap (λ t. before ++ t) (sym (signed-at c.args.block.now i here known mark text l.put.done more))
          ∙ l.invariant.put more;
      on = λ more given. cut-on c.args.block.now i here known l.put.done (length text) more (l.invariant.on more given);
    }
