use Rattle.std.proofs.Common.{length, take, ap, rules, ◌∙◌}
use Rattle.std.proofs.Math.Seq.{take-append_seam}
use Rattle.lbk_cmd.proofs.shown.push_shown.Goals as goal

pub returns-in_err-push_passage_line : goal.returns-in_err-push_passage_line
returns-in_err-push_passage_line c =
    let old = c.args.out.now.items in
    record { all = search rules; kept = ap (take (length old)) c.in_err-push_passage_line.ensures.refused.is ∙ take-append_seam old _ }
