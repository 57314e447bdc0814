use Rattle.std.proofs.Common.{rules, ◌≡◌, ◌≤◌, ◌<◌, ◌+◌, ◌-◌, ◌++◌, length, take, arith, length-take-le, ap, sym, ◌∙◌, slice_range}
use Rattle.std.proofs.lemmas.Slice.{between_from_start}
use Rattle.lbk_feed.proofs.Ranges.{slice_range-put_mid}
use Rattle.lbk_feed.proofs.block.Block.read_from.Goals as goal
use borrow.Rule.Slice.PartMut.{put_mid}

pub returns-clause-fills : goal.returns-clause-fills
returns-clause-fills g c =
    let n = c.in_ok-n.n in
    let moved = c.move_to_front.new.self in
    let buf = c.read.new.buf in
    let room : length buf ≡ 4096 - moved.end = search rules in
    let few : n ≤ length buf = search rules in
    let within : moved.end ≤ length moved.bytes = search rules in
    let from = c.move_to_front.ensures.start in
    let held : length (slice_range moved.bytes 0 moved.end) ≡ moved.end = ap length (between_from_start moved.bytes moved.end) ∙ length-take-le moved.end moved.bytes within in
    let some : 0 < length buf = omega (arith, c.requires, held, room, ap length c.move_to_front.ensures.items, ap (λ s. length (slice_range moved.bytes s moved.end)) from) in
    record {
      got = take n buf;
      count = length-take-le n buf few;
      held = ap (λ s. slice_range (put_mid moved.end (4096 - moved.end) moved.bytes buf) s (moved.end + n)) from
          ∙ slice_range-put_mid moved.bytes buf moved.end (4096 - moved.end) n within few
          ∙ ap (λ l. l ++ take n buf) (sym (ap (λ s. slice_range moved.bytes s moved.end) from) ∙ c.move_to_front.ensures.items);
      taken = c.in_ok-n.ensures.bytes.0;
      at_end = λ none. c.in_ok-n.ensures.bytes.1 none some;
    }
