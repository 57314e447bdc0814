use Rattle.lbk_uax14.proofs.ParagraphLemmas.{paragraph_at, paragraph_between}
use Rattle.lbk_uax14.proofs.laws.paragraph.Goals as goal

pub returns : goal.returns
returns c = record {
  at = paragraph_at;
  between = paragraph_between;
}
