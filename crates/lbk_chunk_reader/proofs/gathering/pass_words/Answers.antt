use Rattle.std.proofs.Common.{◌≡◌, ◌+◌, false, true, subst, arith}
use Rattle.lbk_chunk_reader.specs.Pieces.{ArePassed}
use Rattle.lbk_chunk_reader.proofs.WordLemmas.{counted-on, passed-none, passed-on}
use Rattle.lbk_chunk_reader.proofs.gathering.pass_words.Goals as goal

pub loop-piece-init : goal.loop-piece-init
loop-piece-init c = λ start from joined few. passed-none start (start + c.args.end) c.args.count c.args.pieces.now from joined

pub loop-piece-preserved-then-piece : goal.loop-piece-preserved-then-piece
loop-piece-preserved-then-piece c = λ start from joined few.
    let passed = c.loop-piece.invariant start from joined few in
    let left = c.loop-piece.left.now in
    let p = c.in-Some.piece.now in
    let rest = c.in-Some.rest.now in
    let counted = counted-on start c.loop-piece.count left rest p true c.in-Some.ensures.cases.0 c.if-piece.true
    in
    let one : c.loop-piece.count + 1 ≡ c.saturating_add-count.result =
    omega (arith, counted, passed.same, few, c.saturating_add-count.ensures) in
    subst (λ n. ArePassed start (start + c.args.end) c.args.count c.args.pieces.now n rest) one
    (passed-on start (start + c.args.end) c.args.count c.args.pieces.now c.loop-piece.count left rest p true
    c.in-Some.ensures.cases.0 c.if-piece.true (omega (arith, c.if-end-piece.false)) passed)

pub loop-piece-preserved : goal.loop-piece-preserved
loop-piece-preserved c = λ start from joined few.
    let passed = c.loop-piece.invariant start from joined few in
    let left = c.loop-piece.left.now in
    let p = c.in-Some.piece.now in
    let rest = c.in-Some.rest.now in
    let one : c.loop-piece.count + 0 ≡ c.loop-piece.count = omega arith in
    subst (λ n. ArePassed start (start + c.args.end) c.args.count c.args.pieces.now n rest) one
    (passed-on start (start + c.args.end) c.args.count c.args.pieces.now c.loop-piece.count left rest p false
    c.in-Some.ensures.cases.0 c.if-piece.false (omega (arith, c.if-end-piece.false)) passed)
