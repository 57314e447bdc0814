use Rattle.std.proofs.Common.{[], rules}
use Rattle.std.proofs.lemmas.Result.{err_from_is_err_and}
use Rattle.lbk_chunk_reader.specs.Numbered.{numbered_chunk}
use Rattle.lbk_cmd.specs.Chunk.{chunk_line}
use Rattle.lbk_cmd.specs.Waiting.{waiting_in}
use Rattle.lbk_cmd.proofs.Pushing.{breaks-more, passes-placed, passes-then}
use Rattle.lbk_cmd.proofs.waiting.Waiting.push_place.Goals as goal

pub returns-in_err-make_room : goal.returns-in_err-make_room
returns-in_err-make_room g c = record {
  line =
      let exit = err_from_is_err_and c.from_residual.result c.from_residual.ensures.1 in
      rw exit.1 (breaks-more _ _ _ [] (chunk_line (numbered_chunk c.args.chunk.now)) c.in_err-make_room.ensures.puts.line);
  failures = search rules;
}

pub returns : goal.returns
returns g c = record {
  line =
      passes-then _ _ _ (waiting_in c.make_room.new.self) [] c.in_ok-make_room.ensures.puts.line _ _ (chunk_line (numbered_chunk c.args.chunk.now))
      (passes-placed _ (waiting_in c.make_room.new.self) _ _ c.place_chunk-self.ensures.placed.bytes);
  failures = search rules;
}
