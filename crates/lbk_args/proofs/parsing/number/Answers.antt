use Rattle.std.proofs.Common.{◌∙◌}
use Rattle.std.specs.Str.Parse.{ExplainsUnsignedError, HasUnsignedDigitsIfOk, ParsesUnsigned}
use Rattle.clap.specs.Words.{found_of, one_of, rows_of}
use Rattle.clap.proofs.WalkLemmas.{one_text-rows}
use Rattle.lbk_args.proofs.Values.{number_read}
use Rattle.lbk_args.proofs.parsing.number.Goals as goal

pub returns : goal.returns
returns c =
    let read = one_text-rows (found_of c.args.given.now) c.args.id.now in
    c.unwrap_or.ensures ∙ number_read _ c.args.other (one_of c.args.id.now (rows_of (found_of c.args.given.now)))
    c.get_one.result (λ t x (g : ParsesUnsigned 32 10 t x × ExplainsUnsignedError 10 t x
    × HasUnsignedDigitsIfOk t x). g.0)
    (λ e. c.get_one.ensures.none (read ∙ e)) (λ t e. c.get_one.ensures.value t (read ∙ e))
