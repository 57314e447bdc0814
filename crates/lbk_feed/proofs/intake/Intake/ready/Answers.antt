use Rattle.std.proofs.Common.{◌≤◌, length, take, sym, subst, IsUtf8, length-take-le}
use Rattle.lbk_feed.specs.Block.{used}
use Rattle.lbk_feed.specs.Intake.{view_of}
use Rattle.lbk_feed.proofs.Judged.{ready_held, ready-IsUtf8, front, lends}
use Rattle.lbk_feed.proofs.intake.Intake.ready.Goals as goal

pub slice_bounds-bytes-end : goal.slice_bounds-bytes-end
unfolding view_of
slice_bounds-bytes-end c =
    let i = c.args.self.now in
    let held : i.ready_len ≤ length c.as_slice.result.now = subst (λ l. i.ready_len ≤ length l) (sym c.as_slice.ensures) (ready_held _ _ _ _ _ i.judged) in
    sym (length-take-le i.ready_len c.as_slice.result.now held)

pub from_utf8_unchecked-requires : goal.from_utf8_unchecked-requires
unfolding view_of
from_utf8_unchecked-requires c =
    let i = c.args.self.now in
    subst (λ l. IsUtf8 (take i.ready_len l)) (sym c.as_slice.ensures) (ready-IsUtf8 _ _ _ _ _ i.judged)

pub returns-clause-front : goal.returns-clause-front
unfolding view_of
returns-clause-front c = let i = c.args.self.now in front _ _ _ _ _ i.judged

pub returns-clause-lends : goal.returns-clause-lends
unfolding view_of
returns-clause-lends c = let i = c.args.self.now in lends _ _ _ _ _ i.judged (used i.block) i.is_ended
