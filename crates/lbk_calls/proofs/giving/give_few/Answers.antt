use Rattle.std.proofs.Common.{length, subst}
use Rattle.lbk_calls.specs.Coming.{IsGoing}
use Rattle.lbk_calls.proofs.giving.give_few.Goals as goal

pub give_in-requires-clause-going : goal.give_in-requires-clause-going
give_in-requires-clause-going g c =
    subst (λ s. IsGoing c.in-Some.profile s (length c.args.text.now)) c.plain.ensures c.in-Some.ensures
