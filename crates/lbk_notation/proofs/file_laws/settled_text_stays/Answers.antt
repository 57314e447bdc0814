use Rattle.lbk_notation.proofs.FindingLemmas.{IsEndedText-more, IsReplayText-more}
use Rattle.lbk_notation.proofs.file_laws.settled_text_stays.Goals as goal

pub returns-clause-more : goal.returns-clause-more
returns-clause-more c = IsEndedText-more

pub returns-clause-whole : goal.returns-clause-whole
returns-clause-whole c = IsReplayText-more
