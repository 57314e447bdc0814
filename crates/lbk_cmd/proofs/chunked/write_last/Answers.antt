use Rattle.std.proofs.Common.{rules}
use Rattle.std.proofs.lemmas.Result.{err_from_is_err_and}
use Rattle.lbk_cmd.specs.Chunk.{wanted_of}
use Rattle.lbk_cmd.proofs.ChunkRuns.{last-front, last-lines}
use Rattle.lbk_cmd.proofs.chunked.write_last.Goals as goal

pub returns-in_err-write : goal.returns-in_err-write
returns-in_err-write g c =
    let front = c.in_err-write.ensures.out.front in
    let exit = err_from_is_err_and c.from_residual-in_err-write.result c.from_residual-in_err-write.ensures.1 in
    record {
      all = λ text st. rw exit.1 tt;
      front = λ text st.
          (let gives = c.in_ok-write_chunks.ensures.gives text st in
          rw exit.1 (last-front (wanted_of c.args.asked) text c.args.window.now c.write_chunks.new.window _ _ _ _ gives.0 gives.1
          c.requires.rising c.requires.told _ front.0 front.1));
      failures = search rules;
    }

pub returns : goal.returns
returns g c = record {
  all = λ text st.
      (let gives = c.in_ok-write_chunks.ensures.gives text st in
      last-lines (wanted_of c.args.asked) text c.args.window.now c.write_chunks.new.window _ _ _ _ gives.0 gives.1
      c.requires.rising c.requires.told _ c.in_ok-write.ensures.out.written.1);
  front = λ text st. tt;
  failures = search rules;
}
