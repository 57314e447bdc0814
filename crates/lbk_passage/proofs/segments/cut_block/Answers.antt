use Rattle.std.proofs.Common.{◌≡◌, ◌+◌, ◌<◌, [], ◌∷◌, ◌++◌, append_assoc, get_or, drop, length, map, take, sym, ap, ◌∙◌, arith}
use Rattle.std.proofs.lemmas.List.{drop_more, get_or-map, length-map, take_more_set}
use Rattle.lbk_rules.specs.declared.Break.{Break}
use Rattle.lbk_bytes.specs.Order.{no_break}
use Rattle.lbk_bytes.specs.Shown.{shown}
use Rattle.lbk_bytes.proofs.ShownLemmas.{shown-raw}
use Rattle.lbk_passage.specs.Cuts.{cut_at}
use Rattle.lbk_passage.specs.declared.passage.Segment.{Segment}
use Rattle.lbk_passage.proofs.segments.cut_block.Goals as goal

pub loop-one-preserved : goal.loop-one-preserved
loop-one-preserved c =
    let l = c.loop-one in
    let i = l.one-index in
    let block = c.args.block.now in
    let raw = get_or block i no_break in
    let known = c.requires.breaks i (omega arith) in
    let shows : c.break_of-found.result ≡ shown raw = c.break_of-found.ensures known.0 known.1 ∙ sym (ap shown known.1 ∙ shown-raw known.0) in
    let there : l.count < length l.slots = omega (arith, l.invariant.count, c.in_ok-make_room.ensures.makes.room, c.as_mut_slice-slots.ensures.len, l.auto.slots) in
    record {
      cut = λ more.
          let found = map shown block in
          let rest = drop (i + 1) found ++ more in
          let one : get_or found i (shown no_break) ≡ shown raw = get_or-map shown block i no_break (shown no_break) (omega arith) in
          let piece : Break → Segment = λ b. record { start = l.start; end = raw.at; kind = b.kind; rule = b.rule } in
          let before = take l.count l.slots in
          ap (λ items. items ++ cut_at raw.at rest) (take_more_set l.slots l.count (piece c.break_of-found.result) there)
          ∙ append_assoc before (piece c.break_of-found.result ∷ []) (cut_at raw.at rest)
          ∙ ap (λ b. before ++ piece b ∷ cut_at raw.at rest) shows
          ∙ ap (λ b. before ++ cut_at l.start (b ∷ rest)) (sym one)
          ∙ ap (λ bs. before ++ cut_at l.start (bs ++ more)) (sym (drop_more found i (shown no_break) (omega (arith, length-map block shown))))
          ∙ l.invariant.cut more;
      count = omega (arith, l.invariant.count);
    }
