use Rattle.std.proofs.Common.{◌≡◌, [], ◌∷◌, false, inl, inr, ⊎_elim, refl, subst, sym, ◌∙◌, arith}
use Rattle.lbk_chunks.specs.Chunks.{cuts_past}
use Rattle.lbk_passage.specs.Shown.{state_of}
use Rattle.lbk_chunk_reader.specs.Numbered.{numbered_chunk}
use Rattle.lbk_chunk_reader.specs.Reader.{ChunksCome, IsStopped}
use Rattle.lbk_chunk_reader.specs.Settled.{IsUnsettled}
use Rattle.lbk_chunk_reader.specs.Shown.{view_of}
use Rattle.lbk_chunk_reader.specs.Standing.{view_with}
use Rattle.lbk_chunk_reader.specs.Window.{cuts_in, here_in}
use Rattle.lbk_chunk_reader.proofs.CallLemmas.{progress, reads-then}
use Rattle.lbk_chunk_reader.proofs.ReaderLemmas.{come-none, goes-chunk, goes-none, goes-same, goes-then, none-come, none-next}
use Rattle.lbk_chunk_reader.proofs.ReaderLemmas.{stands-next, stopped-then}
use Rattle.lbk_chunk_reader.proofs.chunker.Chunker.next.Goals as goal

pub loop-chunk-init : goal.loop-chunk-init
loop-chunk-init g c = record {
  goes = goes-none (view_of g.C.CellSource.cell_of c.args.self.now)
      (g.R.Source.unread c.args.reader.now);
  unspent = c.if-self.false;
  failures = refl;
  reads = omega arith;
  due = inl (refl, refl);
  over = λ over. (
    over.0,
    come-none (state_of g.C.CellSource.cell_of c.args.self.now.segmenter) c.args.self.now.window over.1,
    refl,
  );
}

pub returns-in-Some-clause-answer : goal.returns-in-Some-clause-answer
returns-in-Some-clause-answer g c =
    let cell = g.C.CellSource.cell_of in
    let self = c.loop-chunk.self in
    let s = state_of cell self.segmenter in
    let u = g.R.Source.unread c.loop-chunk.reader in
    goes-then (view_of cell c.args.self.now) (view_of cell self) (view_with c.next.new.self s) false
    (g.R.Source.unread c.args.reader.now) u u [] (numbered_chunk c.in-Some.chunk ∷ [])
    c.loop-chunk.invariant.goes
    (goes-chunk s self.window c.next.new.self self.is_whole (self.stands c.loop-chunk.invariant.unspent)
    (numbered_chunk c.in-Some.chunk)
    c.next.ensures.limits.0 c.next.ensures.limits.1 c.in-Some.ensures.chunk u)

pub returns-then-self-2-clause-answer : goal.returns-then-self-2-clause-answer
returns-then-self-2-clause-answer g c =
    let cell = g.C.CellSource.cell_of in
    let self = c.loop-chunk.self in
    let s = state_of cell self.segmenter in
    let same = c.next.ensures.none c.in_default.is in (
      goes-same _ _ _ s _ _ same c.loop-chunk.invariant.goes,
      (
        (self.stands c.loop-chunk.invariant.unspent).whole c.if-self-2.true,
        subst (λ w. ChunksCome (view_with w s) [] []) (sym same)
            (none-come s self.window (c.next.ensures.last c.in_default.is c.if-self-2.true)),
      ),
    )

pub returns-in-Err-clause-answer : goal.returns-in-Err-clause-answer
returns-in-Err-clause-answer g c =
    let cell = g.C.CellSource.cell_of in
    let goes = goes-same _ _ _ _ _ _ (c.next.ensures.none c.in_default.is) c.loop-chunk.invariant.goes in
    subst (λ b. IsStopped (view_of cell c.args.self.now) (view_of cell c.read_on.new.self)
    (g.R.Source.unread c.args.reader.now) (g.R.Source.unread c.read_on.new.reader) b c.in-Err.fault)
    (sym c.if-self.false) (stopped-then _ _ _ _ _ _ c.in-Err.fault goes c.in-Err.ensures.reads)

pub loop-chunk-preserved : goal.loop-chunk-preserved
loop-chunk-preserved g c =
    let i = c.loop-chunk.invariant in
    let goes = goes-same _ _ _ _ _ _ (c.next.ensures.none c.in_default.is) c.loop-chunk.invariant.goes in
    record {
      goes = goes-then _ _ _ false _ _ _ [] [] goes c.in-Ok.ensures.reads.0;
      unspent = c.in-Ok.ensures.unspent;
      failures = c.in-Ok.ensures.failures ∙ i.failures;
      reads = reads-then (state_of g.C.CellSource.cell_of c.args.self.now.segmenter)
          (state_of g.C.CellSource.cell_of c.loop-chunk.self.segmenter)
          (state_of g.C.CellSource.cell_of c.read_on.new.self.segmenter) false _ _ _ i.reads c.in-Ok.ensures.costs;
      due = inr (⊎_elim
          (λ (d : (c.loop-chunk.self ≡ c.args.self.now) × (c.loop-chunk.reader ≡ c.args.reader.now)).
          subst (λ s. IsUnsettled (view_of g.C.CellSource.cell_of s)) d.0
          (c.next.ensures.open c.in_default.is c.if-self-2.false))
          (λ (d : IsUnsettled (view_of g.C.CellSource.cell_of c.args.self.now)). d) i.due);
      over = λ over. (
          let o = i.over over in
          let a = c.in-Ok.ensures.again o.0 in (
            (c.read_on.new.self.stands c.in-Ok.ensures.unspent).whole a.1,
            subst (λ w. cuts_past (here_in w).told (cuts_in w) ≡ [])
                (sym (a.2 ∙ c.next.ensures.none c.in_default.is)) o.1,
            a.3 ∙ o.2,
          ));
    }

pub returns-in-Some-clause-again : goal.returns-in-Some-clause-again
returns-in-Some-clause-again g c = λ over unspent.
    let self = c.loop-chunk.self in
    absurd (none-next (state_of g.C.CellSource.cell_of self.segmenter) self.window c.next.new.self self.is_whole
    (self.stands c.loop-chunk.invariant.unspent) (numbered_chunk c.in-Some.chunk) c.in-Some.ensures.chunk
    (c.loop-chunk.invariant.over over).1)

pub loop-chunk-smaller : goal.loop-chunk-smaller
loop-chunk-smaller g c =
    let cell = g.C.CellSource.cell_of in
    progress (state_of cell c.loop-chunk.self.segmenter).start (state_of cell c.read_on.new.self.segmenter).start
    c.loop-chunk.self.is_whole c.read_on.new.self.is_whole
    c.if-self-2.false c.in-Ok.ensures.reads.1

pub invariant_of-self : goal.invariant_of-self
invariant_of-self g c =
    let self = c.loop-chunk.self in
    record {
      stands = λ unspent. stands-next (state_of g.C.CellSource.cell_of self.segmenter) self.window c.next.new.self
          self.is_whole (self.stands unspent)
          c.next.ensures.limits.0 c.next.ensures.limits.1 c.next.result c.next.ensures.chunk c.next.ensures.none;
    }
