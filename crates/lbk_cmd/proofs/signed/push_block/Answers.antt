use Rattle.std.proofs.Common.{◌+◌, ◌++◌, append_assoc, drop, get_or, length, map, take, sym, ap, ◌∙◌, arith}
use Rattle.std.specs.Prelude.{slice_range}
use Rattle.lbk_bytes.specs.Order.{no_break}
use Rattle.lbk_bytes.specs.Shown.{shown}
use Rattle.lbk_passage.proofs.Places.{front_append, front_then}
use Rattle.lbk_cmd.specs.Mark.{sign}
use Rattle.lbk_cmd.specs.Signing.{signed_from}
use Rattle.lbk_cmd.proofs.Placing.{cut-at, cut-none, cut-on, signed-at}
use Rattle.lbk_cmd.proofs.signed.push_block.Goals as goal

pub push_one-requires : goal.push_one-requires
push_one-requires c =
    let l = c.loop-next in
    let p = c.place_block-put in
    let len = length c.args.text.now in
    let found = map shown c.args.block.now in
    let cut = cut-none l.done p.result.done len (drop l.next found) (drop p.result.next found) p.ensures.cut l.invariant.cut in
    let here = cut-at c.args.block.now p.result.next c.if-next-block.true (c.requires.breaks p.result.next c.if-next-block.true) p.result.done len cut in
    record { text = (here.0, here.1) }

pub loop-next-preserved-then-next-block : goal.loop-next-preserved-then-next-block
loop-next-preserved-then-next-block c =
    let l = c.loop-next in
    let p = c.place_block-put in
    let text = c.args.text.now in
    let mark = c.args.mark.now in
    let block = c.args.block.now in
    let found = map shown block in
    let i = p.result.next in
    let known = c.requires.breaks i c.if-next-block.true in
    let end = (get_or block i no_break).at in
    let cut = cut-none l.done p.result.done (length text) (drop l.next found) (drop i found) p.ensures.cut l.invariant.cut in
    let part = take p.result.len p.new.part in
    let between = c.extend_from_slice.new.self.items in
    let piece = slice_range text p.result.done end ++ sign mark known.0.kind in
    let put = c.in_ok-push_one.ensures known.0 known.1 in
    record {
      within = omega (arith, c.if-next-block.true);
      cut = (cut-at block i c.if-next-block.true known p.result.done (length text) cut).2;
      put = λ more.
          let rest = signed_from mark text end (drop (i + 1) found ++ more) in
          ap (λ t. t ++ rest) put.all
          ∙ append_assoc between piece rest
          ∙ ap (λ t. between ++ t) (append_assoc (slice_range text p.result.done end) (sign mark known.0.kind) rest
          ∙ sym (signed-at block i c.if-next-block.true known mark text p.result.done more))
          ∙ ap (λ t. t ++ signed_from mark text p.result.done (drop i found ++ more)) c.in_ok-extend_from_slice.ensures.items
          ∙ append_assoc l.out.items part (signed_from mark text p.result.done (drop i found ++ more))
          ∙ ap (λ t. l.out.items ++ t) (p.ensures.put more)
          ∙ l.invariant.put more;
      on = λ more given. cut-on block i c.if-next-block.true known p.result.done (length text) more (p.ensures.cut more (l.invariant.on more given));
      kept =
          let old = c.args.out.now.items in
          front_then old between c.push_one.new.out.items
          (ap (take (length old)) c.in_ok-extend_from_slice.ensures.items ∙ front_append old l.out.items part l.invariant.kept) put.kept;
    }

pub loop-next-preserved : goal.loop-next-preserved
loop-next-preserved c =
    let l = c.loop-next in
    let p = c.place_block-put in
    let text = c.args.text.now in
    let mark = c.args.mark.now in
    let found = map shown c.args.block.now in
    let part = take p.result.len p.new.part in
    let old = c.args.out.now.items in
    record {
      within = p.ensures.within.1;
      cut = cut-none l.done p.result.done (length text) (drop l.next found) (drop p.result.next found) p.ensures.cut l.invariant.cut;
      put = λ more.
          let rest = signed_from mark text p.result.done (drop p.result.next found ++ more) in
          ap (λ t. t ++ rest) c.in_ok-extend_from_slice.ensures.items
          ∙ append_assoc l.out.items part rest
          ∙ ap (λ t. l.out.items ++ t) (p.ensures.put more)
          ∙ l.invariant.put more;
      on = λ more given. p.ensures.cut more (l.invariant.on more given);
      kept = ap (take (length old)) c.in_ok-extend_from_slice.ensures.items ∙ front_append old l.out.items part l.invariant.kept;
    }

pub returns-in_err-push_one-clause-kept : goal.returns-in_err-push_one-clause-kept
returns-in_err-push_one-clause-kept c =
    let l = c.loop-next in
    let p = c.place_block-put in
    let old = c.args.out.now.items in
    let known = c.requires.breaks p.result.next c.if-next-block.true in
    front_then old c.extend_from_slice.new.self.items c.push_one.new.out.items
    (ap (take (length old)) c.in_ok-extend_from_slice.ensures.items ∙ front_append old l.out.items (take p.result.len p.new.part) l.invariant.kept)
    (c.push_one.ensures known.0 known.1).kept
