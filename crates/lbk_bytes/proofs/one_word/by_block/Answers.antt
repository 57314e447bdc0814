use Rattle.std.proofs.Common.{arith}
use Rattle.lbk_bytes.proofs.MarkLemmas.{word-with, word-none, words-begun, words-stepped}
use Rattle.lbk_bytes.proofs.one_word.by_block.Goals as goal

pub returns-then-not-are_told : goal.returns-then-not-are_told
returns-then-not-are_told g c =
    let a = c.args in
    let so_far = word-none (g.K.KindSource.kinds_of a.table.now) (g.K.KindSource.pairs_of a.table.now) a.profile a.text.now a.stop a.start c.requires.0 c.requires.1 c.requires.3 in
    record { within = (so_far.row, so_far.onward, so_far.within, so_far.near); none = so_far.none; marked = so_far.marked }

pub returns-then-there-stop : goal.returns-then-there-stop
returns-then-there-stop g c =
    let a = c.args in
    let block = c.mark_block-there in
    let so_far = word-with (g.K.KindSource.kinds_of a.table.now) (g.K.KindSource.pairs_of a.table.now) a.profile a.text.now a.stop a.start block.result c.with_bits.result block.new.words (omega arith) c.with_bits.ensures
    (words-begun (g.K.KindSource.kinds_of a.table.now) (g.K.KindSource.pairs_of a.table.now) a.profile c.rows_of-steps.result.now a.text.now a.stop a.start block.result block.new.words c.requires.3 c.rows_of-steps.ensures block.ensures) in
    record { within = (so_far.row, so_far.onward, so_far.within, so_far.near); none = so_far.none; marked = so_far.marked }

pub returns : goal.returns
returns g c =
    let a = c.args in
    let block = c.mark_block-there in
    let past = c.run-past in
    let so_far = word-with (g.K.KindSource.kinds_of a.table.now) (g.K.KindSource.pairs_of a.table.now) a.profile a.text.now a.stop a.start past.result c.with_bits-2.result past.new.out (omega arith) c.with_bits-2.ensures
    (words-stepped (g.K.KindSource.kinds_of a.table.now) (g.K.KindSource.pairs_of a.table.now) a.profile c.rows_of-steps.result.now a.text.now a.stop a.start block.result past.result block.new.words past.new.out (omega arith) c.rows_of-steps.ensures
    (words-begun (g.K.KindSource.kinds_of a.table.now) (g.K.KindSource.pairs_of a.table.now) a.profile c.rows_of-steps.result.now a.text.now a.stop a.start block.result block.new.words c.requires.3 c.rows_of-steps.ensures block.ensures) past.ensures) in
    record { within = (so_far.row, so_far.onward, so_far.within, so_far.near); none = so_far.none; marked = so_far.marked }
