use Rattle.lbk_rules.proofs.ShownLemmas.{shown-breaks}
use Rattle.lbk_rules.proofs.steps.shows_break.Goals as goal

pub returns : goal.returns
returns c = shown-breaks c.args.shown c.requires.0 c.requires.1
