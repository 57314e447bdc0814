use Rattle.std.proofs.Common.{rules, ◌≡◌, ◌⊎◌, ℕ, [], ◌∷◌, Result, Ok, Err, IfErr, inr}
use Rattle.std.proofs.lemmas.Result.{err_from_is_err_and}
use Rattle.lbk_notation.specs.ReplayState.{OnlyWrites}
use Rattle.lbk_notation.specs.declared.findings.ReplayFault.{ReplayFault}
use Rattle.lbk_notation.specs.declared.findings.ReplayFault.TheVariants.{Memory, Write}
use Rattle.lbk_notation.proofs.RunLemmas.{Uses-put, Uses-refused}
use Rattle.lbk_notation.proofs.files.take.Goals as goal

-- nothing was written, for want of memory
refused_only : (n : ℕ) (fault : ReplayFault) → fault ≡ Memory → OnlyWrites {X = Unit {0}} n n (Err fault)
refused_only n fault is = rw is (search rules)

put_only : (r : Result (Unit {0}) ReplayFault) → IfErr r (λ fault. fault ≡ Write) → IfErr r (λ fault. (fault ≡ Memory) ⊎ (fault ≡ Write))
put_only (Ok x) only = tt
put_only (Err fault) only = inr only

pub returns-in_err-add-clause-writes : goal.returns-in_err-add-clause-writes
returns-in_err-add-clause-writes g c =
    let p = err_from_is_err_and c.from_residual.result c.from_residual.ensures.1 in
    rw p.1 (record {
      uses = Uses-refused _ _ _ c.args.progress.now c.add.new.self (c.args.byte ∷ []) (g.W.Sink.written c.args.writer.now) p.0 p.2;
      faults = refused_only _ p.0 p.2;
    })

pub returns-in_err-end_line-clause-writes : goal.returns-in_err-end_line-clause-writes
returns-in_err-end_line-clause-writes g c =
    let p = err_from_is_err_and c.from_residual-in_err-end_line.result c.from_residual-in_err-end_line.ensures.1 in
    rw p.1 (record {
      uses = Uses-refused _ _ _ c.args.progress.now c.end_line.new.self (c.args.byte ∷ []) (g.W.Sink.written c.args.writer.now) p.0 p.2;
      faults = refused_only _ p.0 p.2;
    })

pub returns-clause-writes : goal.returns-clause-writes
returns-clause-writes g c =
    let front = c.put.ensures.front in
    let used = Uses-put (g.C.CellSource.cell_of c.args.replayer.now.cells.now) c.args.replayer.now.form c.args.replayer.now.profile
    c.args.progress.now c.end_line.new.self 10 c.end_line.new.self.text.items (g.W.Sink.written c.args.writer.now) (g.W.Sink.written c.put.new.writer)
    c.put.result c.in_ok-end_line.ensures.stands (rw c.text.ensures at c.put.ensures.ok) (front.0, rw c.text.ensures at front.1) c.put.ensures.only in
    record {
      uses = rw c.if-byte-ne10.false used;
      faults = record { only = put_only c.put.result c.put.ensures.only; writes = c.put.ensures.writes };
    }
