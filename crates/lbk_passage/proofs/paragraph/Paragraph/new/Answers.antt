use Rattle.lbk_passage.proofs.Texts.{IsLent-none}
use Rattle.lbk_passage.proofs.paragraph.Paragraph.new.Goals as goal

pub invariant_of-result-clause-behind : goal.invariant_of-result-clause-behind
invariant_of-result-clause-behind c = IsLent-none c.args.limit c.new.result
