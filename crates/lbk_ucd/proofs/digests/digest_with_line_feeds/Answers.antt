use Rattle.std.proofs.Common.{◌≡◌, ◌+◌, ◌≤◌, [], ◌∷◌, ◌++◌, Some, None, length, take, drop, length-drop, sym, ap, subst, ◌∙◌, append_assoc, arith}
use Rattle.std.proofs.lemmas.List.{take_rest}
use Rattle.bstr.specs.Find.{FindsNeedle}
use Rattle.lbk_ucd.specs.Digests.{with_line_feeds}
use Rattle.lbk_ucd.proofs.FeedLemmas.{feeds-first, feeds-none}
use Rattle.lbk_ucd.proofs.digests.digest_with_line_feeds.Goals as goal

pub overflow_add-rest : goal.overflow_add-rest
overflow_add-rest c =
    let found : FindsNeedle c.lines.rest.now (13 ∷ 10 ∷ []) 0 (Some c.in-Some.at) =
    subst (λ n. FindsNeedle c.lines.rest.now n 0 (Some c.in-Some.at)) c.as_slice.ensures c.in-Some.ensures in
    omega (arith, found.1.fits, c.lines.invariant.0)

pub lines-preserved : goal.lines-preserved
lines-preserved c =
    let rest = c.lines.rest.now in
    let at = c.in-Some.at in
    let told = c.lines.invariant.1 in
    let found : FindsNeedle rest (13 ∷ 10 ∷ []) 0 (Some at) =
    subst (λ n. FindsNeedle rest n 0 (Some at)) c.as_slice.ensures c.in-Some.ensures in
    let first = feeds-first rest at (λ k few. found.0.before k (omega arith) few) found.1 in
    let shorter : length (drop (at + 1) rest) ≤ length c.args.bytes.now = omega (arith, length-drop (at + 1) rest, c.lines.invariant.0) in
    rw (take_rest rest (at + 1)) (
      shorter,
      (
        told.0 ++ take at rest,
        c.update.ensures told.0 told.1,
        append_assoc told.0 (take at rest) (with_line_feeds (drop (at + 1) rest)) ∙ ap (λ l. told.0 ++ l) (sym first) ∙ told.2,
      ),
    )

pub returns : goal.returns
returns c =
    let rest = c.lines.rest.now in
    let told = c.lines.invariant.1 in
    let none : FindsNeedle rest (13 ∷ 10 ∷ []) 0 None =
    subst (λ n. FindsNeedle rest n 0 None) c.as_slice.ensures c.in_default.ensures in
    let stays = feeds-none rest (λ k few. none k (omega arith) (omega (arith, few))) in
    let whole : told.0 ++ rest ≡ with_line_feeds c.args.bytes.now = ap (λ l. told.0 ++ l) (sym stays) ∙ told.2 in
    c.finalize.ensures (with_line_feeds c.args.bytes.now) (rw whole at (c.update-2.ensures told.0 told.1))
