use Rattle.std.proofs.Common.{get_or-take}
use Rattle.lbk_masks.proofs.block_of.Goals as goal

pub returns-clause-lanes : goal.returns-clause-lanes
returns-clause-lanes c i h = get_or-take 16 c.args.text.now i 0 h
