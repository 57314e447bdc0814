use Rattle.std.proofs.Common.{◌≡◌, ◌+◌, length, refl, arith, rules}
use Rattle.std.proofs.lemmas.Simd.{length-put_chunk, take_more_put_chunk}
use Rattle.lbk_passage.proofs.Places.{Placed-front}
use Rattle.lbk_passage.proofs.lines.placing.place_front.Goals as goal

pub returns : goal.returns
returns g c =
    let buf = c.args.buf.now in
    let at = c.args.at in
    let bytes = c.args.bytes in
    let long : length bytes ≡ g.row.N = search rules in
    Placed-front c.args.len (omega arith) (omega arith) (record {
      bytes = take_more_put_chunk at buf bytes (at + length bytes) refl (omega arith);
      moved = refl;
      len = length-put_chunk at buf bytes;
    })
