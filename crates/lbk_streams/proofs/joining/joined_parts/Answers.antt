use Rattle.lbk_streams.proofs.JoinLemmas.{ends-later, joins-at, joins-parts}
use Rattle.lbk_streams.proofs.joining.joined_parts.Goals as goal

pub returns : goal.returns
returns c = record { two = joins-at; later = ends-later; many = joins-parts }
