use Rattle.lbk_feed.proofs.Judged.{prefix-after}
use Rattle.lbk_feed.proofs.laws.prefix_behind_a_text.Goals as goal

pub returns : goal.returns
returns c text bs is_text = prefix-after text bs is_text
