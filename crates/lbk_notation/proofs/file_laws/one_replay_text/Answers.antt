use Rattle.lbk_notation.proofs.FindingLemmas.{IsFinding-one, IsReplayText-one}
use Rattle.lbk_notation.proofs.file_laws.one_replay_text.Goals as goal

pub returns-clause-line : goal.returns-clause-line
returns-clause-line c = IsFinding-one

pub returns-clause-file : goal.returns-clause-file
returns-clause-file c = IsReplayText-one
