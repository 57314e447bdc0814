-- Where some cell stands on the left, the rules see of it what is asked.
use Rattle.lbk_uax14.proofs.FactsLemmas.{verdict-facts}
use Rattle.lbk_uax14.proofs.facts.Left.verdict.Goals as goal

pub returns-else-self : goal.returns-else-self
returns-else-self c = λ side more e closes.
    verdict-facts c.args.profile c.args.self side more c.args.right c.from_4.result e c.if-self.false
    (λ cell rest known past. c.from_4.ensures cell rest more known past closes)
