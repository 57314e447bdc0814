use Rattle.lbk_passage.proofs.Texts.{lent-utf8}
use Rattle.lbk_passage.proofs.paragraph.Paragraph.text.Goals as goal

pub behind-requires-clause-text : goal.behind-requires-clause-text
behind-requires-clause-text c = lent-utf8 c.args.self.now
