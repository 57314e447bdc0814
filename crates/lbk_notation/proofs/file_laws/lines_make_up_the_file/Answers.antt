use Rattle.lbk_notation.proofs.StreamLemmas.{IsCut-cut_of, value-cut_of}
use Rattle.lbk_notation.proofs.file_laws.lines_make_up_the_file.Goals as goal

pub returns-clause-whole : goal.returns-clause-whole
returns-clause-whole c = value-cut_of

pub returns-clause-lines : goal.returns-clause-lines
returns-clause-lines c = λ bytes. (IsCut-cut_of bytes).lines

pub returns-clause-rest : goal.returns-clause-rest
returns-clause-rest c = λ bytes. (IsCut-cut_of bytes).rest
