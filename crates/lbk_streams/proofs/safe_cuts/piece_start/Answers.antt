use Rattle.lbk_streams.proofs.SafeLemmas.{found, found-starts}
use Rattle.lbk_streams.proofs.safe_cuts.piece_start.Goals as goal

pub returns-clause-begins : goal.returns-clause-begins
returns-clause-begins c =
    let r = c.decode_last_lossy-size in
    let f = found c.args.text.now c.args.end r.result.0 r.result.1 c.requires.some c.requires.within r.ensures.last in
    (found-starts c.args.text.now c.args.end r.result.0 r.result.1 c.requires.within f).0

pub returns-clause-holds : goal.returns-clause-holds
returns-clause-holds c =
    let r = c.decode_last_lossy-size in
    let f = found c.args.text.now c.args.end r.result.0 r.result.1 c.requires.some c.requires.within r.ensures.last in
    (found-starts c.args.text.now c.args.end r.result.0 r.result.1 c.requires.within f).1
