use Rattle.std.proofs.Common.{◌≡◌, ◌∙◌, ap, arith, drop, inr, length, map}
use Rattle.lbk_chunks.specs.Chunks.{cuts_past}
use Rattle.lbk_chunk_reader.specs.Numbered.{numbered, numbered_chunk}
use Rattle.lbk_chunk_reader.proofs.WindowLemmas.{behind-some, none-numbered, open-last, tail-is, window-next}
use Rattle.lbk_chunk_reader.proofs.window.Window.next.Goals as goal
use Rattle.lbk_chunk_reader.proofs.window.Window.next.Goals.{else-is_empty-via-then-is_empty+else-not-is_whole}
use Rattle.lbk_chunk_reader.proofs.window.Window.next.Goals.{else-is_empty-via-else-is_empty}

pub returns-clause-chunk : goal.returns-clause-chunk
returns-clause-chunk c = λ more whole rising.
    let self = c.args.self.now in
    let behind = c.past-behind.result.now in
    window-next self.limits self.here self.cuts.items c.deref.result.now c.past.result.now behind c.past-2.result.now
    self.passed c.len.result c.in-Some.end c.args.is_whole
    (numbered_chunk c.chunk_to-chunk.result) c.start_behind-next.result (let few = self.passed_few in
    omega (arith, few)) c.deref.ensures.value
    (let total : c.len.result ≡ length self.cuts.items = omega (arith, c.len.ensures) in total)
    c.past.ensures.past c.in-Some.ensures.end c.past-behind.ensures.past
    (elim c.else-is_empty.branch [
      | else-is_empty-via-then-is_empty+else-not-is_whole w ↦ inr w.if-not-is_whole.false
      | else-is_empty-via-else-is_empty w ↦ behind-some behind c.is_empty.result c.args.is_whole c.is_empty.ensures
          w.if-is_empty.false
    ])
    c.chunk_to-chunk.ensures c.start_behind-next.ensures c.past-2.ensures.past more whole rising

pub returns-then-not-is_whole-clause-open : goal.returns-then-not-is_whole-clause-open
returns-then-not-is_whole-clause-open c = λ _ _.
    let self = c.args.self.now in
    let behind = c.past-behind.result.now in
    let same = ap (map numbered) (tail-is c.deref.result.now self.cuts.items self.passed c.deref.ensures.value) in
    open-last self.limits self.here (map numbered (drop self.passed self.cuts.items)) (map numbered c.past.result.now)
    (map numbered behind) (numbered c.in-Some.end)
    c.args.is_whole (c.past.ensures.past ∙ ap (cuts_past self.here.told) same) c.in-Some.ensures.end
    (c.past-behind.ensures.past ∙ ap (cuts_past c.in-Some.end.at) same)
    (none-numbered behind c.is_empty.result c.is_empty.ensures c.if-is_empty.true)
