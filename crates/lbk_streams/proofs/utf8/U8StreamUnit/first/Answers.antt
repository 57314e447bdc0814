use Rattle.lbk_streams.proofs.FrontLemmas.{utf8-few, utf8-whole}
use Rattle.lbk_streams.proofs.utf8.U8StreamUnit.first.Goals as goal

pub returns-clause-whole : goal.returns-clause-whole
returns-clause-whole c = λ more closed. utf8-whole c.args.bytes.now more c.front.result c.requires closed c.front.ensures

pub returns-clause-few : goal.returns-clause-few
returns-clause-few c = utf8-few c.args.bytes.now c.front.result c.requires c.front.ensures
