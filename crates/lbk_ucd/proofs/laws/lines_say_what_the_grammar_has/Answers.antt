use Rattle.lbk_ucd.proofs.GrammarLemmas.{said_is, said_from}
use Rattle.lbk_ucd.proofs.laws.lines_say_what_the_grammar_has.Goals as goal

pub returns : goal.returns
returns c = λ defaults line meaning. (said_is defaults line meaning, said_from defaults line meaning)
