use Rattle.std.proofs.Common.{◌∙◌}
use Rattle.clap.specs.Words.{found_of, one_of, rows_of}
use Rattle.clap.proofs.WalkLemmas.{one_text-rows}
use Rattle.lbk_args.proofs.Values.{flag_read}
use Rattle.lbk_args.proofs.parsing.flag.Goals as goal

pub returns : goal.returns
returns c =
    let read = one_text-rows (found_of c.args.given.now) c.args.id.now in
    c.unwrap_or.ensures ∙ flag_read _ (one_of c.args.id.now (rows_of (found_of c.args.given.now))) c.get_one.result
    (λ t x g. g)
    (λ e. c.get_one.ensures.none (read ∙ e)) (λ t e. c.get_one.ensures.value t (read ∙ e))
