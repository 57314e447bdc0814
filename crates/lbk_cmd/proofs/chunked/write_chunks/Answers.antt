use Rattle.std.proofs.Common.{◌∙◌, refl, ap, subst}
use Rattle.std.proofs.lemmas.Result.{err_from_is_err_and}
use Rattle.lbk_feed.specs.Devices.{failures_after}
use Rattle.lbk_cmd.specs.Chunk.{wanted_of}
use Rattle.lbk_cmd.specs.Chunking.{Breaks, Passes}
use Rattle.lbk_cmd.specs.Waiting.{waiting_in}
use Rattle.lbk_cmd.proofs.ChunkGiving.{broke-off, fewer-then, gave-more, gave-none, line-of, rising-then, told-then}
use Rattle.lbk_cmd.proofs.chunked.write_chunks.Goals as goal

pub loop-chunk-init : goal.loop-chunk-init
loop-chunk-init g c = record {
  gave = λ text st. gave-none (wanted_of c.args.asked) text c.args.is_whole c.args.window.now (g.W.Sink.written c.args.writer.now) (waiting_in c.args.waiting.now) st;
  rising = c.requires.rising;
  told = c.requires.told;
  failures = refl;
}

pub loop-chunk-preserved : goal.loop-chunk-preserved
loop-chunk-preserved g c =
    let l = c.loop-chunk in
    let i = l.invariant in
    let w' = c.next.new.self in
    let chunk = c.in-Some.chunk in
    let whole = c.args.is_whole in
    record {
      gave = λ text st.
          let gave = i.gave text st in
          let line = line-of (wanted_of c.args.asked) text whole c.args.window.now l.window _ _ _ _ gave c.requires.rising c.requires.told i.rising i.told
          w' chunk c.next.ensures.limits.0 c.next.ensures.limits.1 c.next.ensures.held c.in-Some.ensures.chunk c.in-Some.ensures.behind
          _ (λ kept is. c.text_of.ensures text kept is.0 is.1) in
          gave-more (wanted_of c.args.asked) text whole c.args.window.now l.window _ _ _ _ gave c.requires.rising c.requires.told i.rising i.told
          w' chunk c.next.ensures.limits.0 c.next.ensures.limits.1 c.next.ensures.held c.in-Some.ensures.chunk c.in-Some.ensures.behind _ _
          (subst (Passes _ _ _ _) line c.in_ok-push.ensures.line);
      rising = rising-then whole l.window w' chunk c.in-Some.ensures.chunk c.in-Some.ensures.behind i.rising i.told;
      told = told-then whole l.window w' chunk c.in-Some.ensures.chunk c.in-Some.ensures.behind i.rising i.told;
      failures = c.push.ensures.failures ∙ ap (failures_after (g.W.Sink.failure_count l.writer)) c.in_ok-push.was ∙ i.failures;
    }

pub loop-chunk-smaller : goal.loop-chunk-smaller
loop-chunk-smaller g c =
    let i = c.loop-chunk.invariant in
    fewer-then c.args.is_whole c.loop-chunk.window c.next.new.self c.in-Some.chunk c.in-Some.ensures.chunk c.in-Some.ensures.behind i.rising i.told

pub returns-in_err-push-clause-gives : goal.returns-in_err-push-clause-gives
returns-in_err-push-clause-gives g c = λ text st.
    let l = c.loop-chunk in
    let i = l.invariant in
    let w' = c.next.new.self in
    let chunk = c.in-Some.chunk in
    let whole = c.args.is_whole in
    let exit = err_from_is_err_and c.from_residual.result c.from_residual.ensures.1 in
    let gave = i.gave text st in
    let line = line-of (wanted_of c.args.asked) text whole c.args.window.now l.window _ _ _ _ gave c.requires.rising c.requires.told i.rising i.told
    w' chunk c.next.ensures.limits.0 c.next.ensures.limits.1 c.next.ensures.held c.in-Some.ensures.chunk c.in-Some.ensures.behind
    _ (λ kept is. c.text_of.ensures text kept is.0 is.1) in
    rw exit.1 (broke-off (wanted_of c.args.asked) text whole c.args.window.now l.window _ _ _ _ gave c.requires.rising c.requires.told i.rising i.told
    w' chunk c.next.ensures.limits.0 c.next.ensures.limits.1 c.next.ensures.held c.in-Some.ensures.chunk c.in-Some.ensures.behind _
    (subst (Breaks _ _ _) line c.in_err-push.ensures.line))
