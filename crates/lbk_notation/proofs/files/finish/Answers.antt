use Rattle.std.proofs.Common.{◌∙◌}
use Rattle.std.proofs.lemmas.Result.{err_from_is_err_and}
use Rattle.lbk_notation.proofs.RunLemmas.{Ends-all, Ends-at_counts, Ends-at_line, Ends-refused, Ends-uncounted}
use Rattle.lbk_notation.proofs.files.finish.Goals as goal

pub returns-in_err-end_last-clause-ends : goal.returns-in_err-end_last-clause-ends
returns-in_err-end_last-clause-ends g c =
    let p = err_from_is_err_and c.from_residual.result c.from_residual.ensures.1 in
    rw p.1 (Ends-refused _ _ _ c.args.progress (g.W.Sink.written c.args.writer.now) p.0 p.2)

pub returns-in_err-put-clause-ends : goal.returns-in_err-put-clause-ends
returns-in_err-put-clause-ends g c =
    let p = err_from_is_err_and c.from_residual-in_err-put.result c.from_residual-in_err-put.ensures.1 in
    let front = c.in_err-put.ensures.front in
    let put = rw c.text.ensures at front.1 in
    rw p.1 (Ends-at_line _ _ _ c.args.progress c.end_last.new.self c.end_last.new.self.text.items front.0 _ _ p.0
    (p.2 ∙ c.in_err-put.ensures.only) put c.in_ok-end_last.ensures.stands)

pub returns-in_err-total-clause-ends : goal.returns-in_err-total-clause-ends
returns-in_err-total-clause-ends g c =
    let p = err_from_is_err_and c.from_residual-in_err-total.result c.from_residual-in_err-total.ensures.1 in
    let put = rw c.text.ensures at c.in_ok-put.ensures.ok in
    rw p.1 (Ends-uncounted _ _ _ c.args.progress c.end_last.new.self c.end_last.new.self.text.items _ _ p.0 p.2
    put c.in_ok-end_last.ensures.stands)

pub returns-in_err-put-2-clause-ends : goal.returns-in_err-put-2-clause-ends
returns-in_err-put-2-clause-ends g c =
    let p = err_from_is_err_and c.from_residual-in_err-put-2.result c.from_residual-in_err-put-2.ensures.1 in
    let text = c.end_last.new.self.text.items in
    let first = rw c.text.ensures at c.in_ok-put.ensures.ok in
    let front = c.in_err-put-2.ensures.front in
    let put = rw (c.text-2.ensures, c.in_ok-total.ensures.text) at front.1 in
    rw p.1 (Ends-at_counts _ _ _ c.args.progress c.end_last.new.self text front.0 _ _ _ p.0 (p.2 ∙ c.in_err-put-2.ensures.only) first put
    c.in_ok-end_last.ensures.stands)

pub returns-clause-ends : goal.returns-clause-ends
returns-clause-ends g c =
    let text = c.end_last.new.self.text.items in
    let first = rw c.text.ensures at c.in_ok-put.ensures.ok in
    let last = rw (c.text-2.ensures, c.in_ok-total.ensures.text) at c.in_ok-put-2.ensures.ok in
    Ends-all _ _ _ c.args.progress c.end_last.new.self text c.report.result _ _ _ (c.report.ensures ∙ c.in_ok-total.ensures.report) first last
    c.in_ok-end_last.ensures.stands
