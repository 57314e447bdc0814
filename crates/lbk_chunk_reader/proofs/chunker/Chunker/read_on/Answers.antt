use Rattle.std.proofs.Common.{Ok, Err, subst}
use Rattle.lbk_passage.specs.Shown.{state_of}
use Rattle.lbk_chunk_reader.specs.Standing.{Stands}
use Rattle.lbk_chunk_reader.proofs.CallLemmas.{read-came, read-stopped, reads-each}
use Rattle.lbk_chunk_reader.proofs.chunker.Chunker.read_on.Goals as goal

pub returns-in-Ok-clause-reads : goal.returns-in-Ok-clause-reads
returns-in-Ok-clause-reads g c =
    let self = c.args.self.now in
    let stands = self.stands c.requires.unspent in
    let going = subst (Stands self.window (state_of g.C.CellSource.cell_of self.segmenter)) c.requires.going stands in
    let came = read-came _ _ _ _ _ _ _ _ _ _ _ _ going c.in-Ok.came (c.in-Ok.ensures.next stands.words) in
    (came.0, came.1)

pub returns-in-Err-clause-reads : goal.returns-in-Err-clause-reads
returns-in-Err-clause-reads g c =
    let self = c.args.self.now in
    let stands = self.stands c.requires.unspent in
    let going = subst (Stands self.window (state_of g.C.CellSource.cell_of self.segmenter)) c.requires.going stands in
    read-stopped _ _ _ _ _ _ _ _ _ _ _ _ going c.in-Err.fault (c.in-Err.ensures.next stands.words)

pub invariant_of-self : goal.invariant_of-self
invariant_of-self g c =
    let self = c.args.self.now in
    let stands = self.stands c.requires.unspent in
    let going = subst (Stands self.window (state_of g.C.CellSource.cell_of self.segmenter)) c.requires.going stands in
    record {
      stands = λ _. (read-came _ _ _ _ _ _ _ _ _ _ _ _ going c.in-Ok.came (c.in-Ok.ensures.next stands.words)).2;
    }

pub returns-in-Ok-clause-costs : goal.returns-in-Ok-clause-costs
returns-in-Ok-clause-costs g c =
    let stands = c.args.self.now.stands c.requires.unspent in
    reads-each _ _ _ _ _ _ _ _ _ _ _ _ (Ok c.in-Ok.came) (c.in-Ok.ensures.next stands.words)

pub returns-in-Err-clause-costs : goal.returns-in-Err-clause-costs
returns-in-Err-clause-costs g c =
    let stands = c.args.self.now.stands c.requires.unspent in
    reads-each _ _ _ _ _ _ _ _ _ _ _ _ (Err c.in-Err.fault) (c.in-Err.ensures.next stands.words)
