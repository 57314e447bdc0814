use Rattle.lbk_ucd.proofs.TakenLemmas.{any-more, none-more}
use Rattle.lbk_ucd.proofs.taken.any_marked.Goals as goal

pub loop-word-preserved : goal.loop-word-preserved
loop-word-preserved c =
    let l = c.loop-word in
    let words = c.args.words.now in
    let bits = c.bits_within.result in
    record {
      yes = any-more words l.word c.args.first c.args.last bits l.any (c.type_inv.words l.word).fits c.bits_within.ensures l.invariant.yes;
      no = none-more words l.word c.args.first c.args.last bits l.any c.bits_within.ensures l.invariant.no;
    }
